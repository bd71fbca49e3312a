-- A small trace.
use Rattle.std.specs.Prelude.{ℕ, ℤ, pos, negsuc, Bool, true, false, List, [], ◌∷◌, codes}
use Rattle.market_types.specs.Told.{EntryTold, event, edit}
use Rattle.market_types.specs.declared.message.Body.{Body}
use Rattle.market_types.specs.declared.message.Body.TheVariants.{Answer, Quote}
use Rattle.market_types.specs.declared.reply.Reply.TheVariants.{Executed}

abbrev pub told : Bool → ℤ → Body → EntryTold
told put_back fee body = event (record {
  number = 1;
  time = 1000;
  seq = 0;
  from = 0;
  to = 1;
  put_back = put_back;
  until = 1000;
  fee = fee;
  body = body;
  before = [];
  after = [];
})

-- an execution of so many shares at a price, with this flag
abbrev pub executed : ℕ → ℕ → ℕ → Body
executed shares price flag = Answer (Executed 1000 (record { 0 = codes "T0001000000001" }) shares price flag 1)

-- a quote with these sides
abbrev pub quoted : ℕ → ℕ → Body
quoted bid ask = Quote (record { stock = 0; state = 84; bid = bid; bid_shares = 1; ask = ask; ask_shares = 1; last = 0 })

abbrev pub entries : List EntryTold
entries =
    told false (pos 30) (executed 50 100300 82)
    ∷ told false (negsuc 4) (executed 50 99000 65)
    ∷ told false (pos 0) (quoted 99900 100100)
    ∷ edit (record { events = 3; time = 1000; branch = 1; index = 0; letter = 104; feed = [] })
    ∷ told false (pos 0) (quoted 0 100100)
    ∷ told true (pos 0) (executed 7 1 82)
    ∷ told false (pos 0) (executed 10 100000 82)
    ∷ []
