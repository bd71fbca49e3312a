-- Frames by the case of what they tell.
use Rattle.std.proofs.Common.{◌≡◌, ℕ, ◌/◌, ◌%◌, List, [], ◌∷◌, ◌++◌, Result, OnOk, refl, sym, ap, ◌∙◌, subst}
use Rattle.std.proofs.Math.Nat.{div-one}
use Rattle.market_types.specs.declared.feed.Feed.{Feed}
use Rattle.market_types.specs.declared.feed.What.{What}
use Rattle.market_types.specs.declared.message.Body.{Body}
use Rattle.market_types.specs.declared.message.Body.TheVariants.{Ask}
use Rattle.market_types.specs.declared.message.Message.{Message}
use Rattle.wire_fields.specs.Wire.{spelling}
use Rattle.itch_codec.specs.Frames.{framed}
use Rattle.bundle_frames.specs.Frames.{message_frame, event_frame, waiting_frame}
use Rattle.bundle_frames.specs.Heads.{headed, saying}
use Rattle.bundle_frames.specs.Wires.{body_bytes, head_wire, letter_of_body, waiting_wire}
use Rattle.bundle_frames.specs.declared.head.EventHead.{EventHead}

-- what was appended under another name
pub instead : {A E : Type 0} (r : Result A E) (old new a b : List ℕ) → a ≡ b → OnOk r (new ≡ old ++ a) → OnOk r (new ≡ old ++ b)
instead r old new a b same after = subst (λ (l : List ℕ). OnOk r (new ≡ old ++ l)) same after

-- what was appended of a message of the feed that says this
pub told : {A E : Type 0} (r : Result A E) (old new : List ℕ) (m : Feed) (w : What) (bytes : List ℕ) → m.what ≡ w → bytes ≡ saying m w
    → OnOk r (new ≡ old ++ bytes) → OnOk r (new ≡ old ++ message_frame m)
unfolding message_frame
told r old new m w bytes is same after =
    instead r old new bytes (saying m m.what) (same ∙ ap (λ (v : What). saying m v) (sym is)) after

-- what was appended of an event whose body is this
pub of_body : {A E : Type 0} (r : Result A E) (old new : List ℕ) (h : EventHead) (b d : Body) → b ≡ d → OnOk r (new ≡ old ++ event_frame (headed h d [] []))
    → OnOk r (new ≡ old ++ event_frame (headed h b [] []))
of_body r old new h b d is after = subst (λ (x : Body). OnOk r (new ≡ old ++ event_frame (headed h x [] []))) (sym is) after

-- the same by the body's bytes
pub of_bytes : {A E : Type 0} (r : Result A E) (old new : List ℕ) (h : EventHead) (b d : Body) (bytes : List ℕ) → b ≡ d → bytes ≡ body_bytes d
    → OnOk r (new ≡ old ++ framed (spelling (head_wire h (letter_of_body d)) ++ bytes)) → OnOk r (new ≡ old ++ event_frame (headed h b [] []))
unfolding event_frame
of_bytes r old new h b d bytes is same after =
    of_body r old new h b d is (subst (λ (xs : List ℕ). OnOk r (new ≡ old ++ framed (spelling (head_wire h (letter_of_body d)) ++ xs))) same after)

-- the two bytes of a question
pub ask_bytes : (n : ℕ) → n / 256 % 256 ∷ n % 256 ∷ [] ≡ body_bytes (Ask n)
ask_bytes n = simp div-one refl

-- what was appended of a waiting message whose body is this
pub of_waiting : {A E : Type 0} (r : Result A E) (old new : List ℕ) (m : Message) (d : Body) (head bytes : List ℕ) → head ≡ spelling (waiting_wire m)
    → m.body ≡ d → bytes ≡ body_bytes d → OnOk r (new ≡ old ++ framed (head ++ bytes)) → OnOk r (new ≡ old ++ waiting_frame m)
unfolding waiting_frame
of_waiting r old new m d head bytes first is same after =
    instead r old new (framed (head ++ bytes)) (framed (spelling (waiting_wire m) ++ body_bytes m.body))
    (ap (λ (l : List ℕ). framed (l ++ bytes)) first ∙ ap (λ (l : List ℕ). framed (spelling (waiting_wire m) ++ l)) (same ∙ ap body_bytes (sym is)))
    after
