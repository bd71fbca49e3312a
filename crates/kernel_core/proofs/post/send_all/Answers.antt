use Rattle.std.proofs.Common.{◌≡◌, ◌+◌, ◌++◌, ℕ, List, All, length, map, sym, ap, subst, ◌∙◌, arith}
use Rattle.std.proofs.lemmas.List.{length-append, length-map}
use Rattle.agent_shell.specs.declared.sending.Sending.{Sending}
use Rattle.exchange_agent.specs.declared.handled.Outgoing.{Outgoing}
use Rattle.market_floor.specs.declared.posting.Posting.{Posting}
use Rattle.market_floor.specs.Posted.{to_exchange, to_receiver}
use Rattle.market_floor.specs.Postings.{IsAddressed}
use Rattle.kernel_core.specs.Post.{Post}
use Rattle.kernel_core.specs.Send.{all_sent}
use Rattle.kernel_core.proofs.Posted.{All-behind, All-front, All-made, all_sent-both}
use Rattle.kernel_core.proofs.post.send_all.Goals as goal

-- how many there are of both
both-long : (xs : List Posting) (rs : List Outgoing) (ss : List Sending) → xs ≡ map to_receiver rs ++ map to_exchange ss → length xs ≡ length rs + length ss
both-long xs rs ss is = omega (arith, ap (λ (ys : List Posting). length ys) is, length-append (map to_receiver rs) (map to_exchange ss), length-map rs to_receiver, length-map ss to_exchange)

pub send_replies-requires-clause-addressed : goal.send_replies-requires-clause-addressed
send_replies-requires-clause-addressed c =
    let rs = c.lists.result.0.now in
    let ss = c.lists.result.1.now in
    let P : Posting → Type 0 = λ x. IsAddressed (length c.args.o.now.traders) (length c.args.o.now.stocks) c.args.from x in
    All-made P to_receiver rs (All-front P (map to_receiver rs) (map to_exchange ss) (subst (λ (xs : List Posting). All P xs) c.lists.ensures.whole c.requires.addressed))

pub send_replies-requires-clause-numbers : goal.send_replies-requires-clause-numbers
send_replies-requires-clause-numbers c = omega (arith, c.requires.numbers, both-long c.args.postings.now c.lists.result.0.now c.lists.result.1.now c.lists.ensures.whole)

pub send_replies-requires-clause-drops : goal.send_replies-requires-clause-drops
send_replies-requires-clause-drops c = omega (arith, c.requires.drops, both-long c.args.postings.now c.lists.result.0.now c.lists.result.1.now c.lists.ensures.whole)

pub send_sendings-requires-clause-addressed : goal.send_sendings-requires-clause-addressed
send_sendings-requires-clause-addressed c =
    let rs = c.lists.result.0.now in
    let ss = c.lists.result.1.now in
    let P : Posting → Type 0 = λ x. IsAddressed (length c.args.o.now.traders) (length c.args.o.now.stocks) c.args.from x in
    All-made P to_exchange ss (All-behind P (map to_receiver rs) (map to_exchange ss) (subst (λ (xs : List Posting). All P xs) c.lists.ensures.whole c.requires.addressed))

pub send_sendings-requires-clause-numbers : goal.send_sendings-requires-clause-numbers
send_sendings-requires-clause-numbers c =
    omega (arith, c.requires.numbers, c.send_replies.ensures.numbers, both-long c.args.postings.now c.lists.result.0.now c.lists.result.1.now c.lists.ensures.whole)

pub send_sendings-requires-clause-drops : goal.send_sendings-requires-clause-drops
send_sendings-requires-clause-drops c =
    omega (arith, c.requires.drops, c.send_replies.ensures.drops, both-long c.args.postings.now c.lists.result.0.now c.lists.result.1.now c.lists.ensures.whole)

pub returns-clause-mail : goal.returns-clause-mail
returns-clause-mail c =
    let o = c.args.o.now in
    let groups = c.args.groups.now in
    let from = c.args.from in
    let leave = c.args.leave in
    let rs = c.lists.result.0.now in
    let ss = c.lists.result.1.now in
    c.send_sendings.ensures.mail
    ∙ ap (λ (p : Post). all_sent o groups from leave p (map to_exchange ss)) c.send_replies.ensures.mail
    ∙ sym (all_sent-both o groups from leave c.args.mail.now (map to_receiver rs) (map to_exchange ss))
    ∙ sym (ap (all_sent o groups from leave c.args.mail.now) c.lists.ensures.whole)

pub returns-clause-drops : goal.returns-clause-drops
returns-clause-drops c =
    omega (arith, c.send_sendings.ensures.drops, c.send_replies.ensures.drops, both-long c.args.postings.now c.lists.result.0.now c.lists.result.1.now c.lists.ensures.whole)
