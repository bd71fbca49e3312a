-- What the types of a run's numbers give with its texts: its fields are in their ranges.
use Rattle.std.proofs.Common.{◌≡◌, ◌∙◌, ℕ, zero, suc, ◌<◌, ◌≤◌, List, [], ◌∷◌, length, map, take, All, Option, None, Some, refl, sym, ap, subst, arith}
use Rattle.std.proofs.lemmas.List.{take_all}
use Rattle.std.proofs.lemmas.List.Elements.{All-append, All-cons, All-head, All-map, All-nil, All-tail, All-weaker}
use Rattle.market_types.specs.Told.{EntryTold, EventTold, event, edit}
use Rattle.bundle_frames.specs.declared.closing.Closing.{Closing}
use Rattle.branch_tree.specs.Planned.{IsTree}
use Rattle.branch_tree.specs.Segments.{last_of, segment_at, segments_in}
use Rattle.branch_tree.proofs.PartLemmas.{last-at}
use Rattle.kernel_core.specs.Until.{Run}
use Rattle.kernel_copy.specs.Closing.{closing_at}
use Rattle.kernel_copy.specs.Courses.{CourseTold, IsCourse}
use Rattle.kernel_copy.specs.Full.{full_run}
use Rattle.kernel_copy.specs.Segmentwise.{parent_end, segment_end, segment_entries}
use Rattle.kernel_copy.proofs.Trees.{course-tree}
use Rattle.kernel_copy.proofs.Walks.{full-last, has_parent, segment-copy}
use Rattle.bundle_reader.specs.Bundle.{closing_list, event_part}
use Rattle.bundle_reader.specs.Frames.{HasRanges}
use Rattle.bundle_reader.specs.declared.frame.EventFrame.{EventFrame}
use Rattle.bundle_reader.specs.declared.frame.Frame.{Frame}
use Rattle.bundle_reader.specs.declared.frame.Frame.TheVariants as frame
use Rattle.market_laws.specs.Texts.{HasBodyTexts, HasEventTexts}
use Rattle.audit_desk.specs.Clipped.{AreNamed, clipped_closing}
use Rattle.audit_desk.specs.Ranges.{IsEventInRange, IsInRange}
use Rattle.audit_desk.specs.Typed.{IsTyped, IsTypedSegment}
use Rattle.audit_desk.proofs.HeldBundles.{closing-moved}
use Rattle.audit_desk.proofs.HeldCourses.{IsLawful, closing-texts}
use Rattle.audit_desk.proofs.HeldFrames.{HasFrameTexts, clipped_frame, frame-fits}
use Rattle.audit_desk.proofs.Marked.{IsMarkedInRange}

-- ---- lists

all-same : {X : Type 0} (f : X → X) (xs : List X) → All (λ (x : X). f x ≡ x) xs → map f xs ≡ xs
all-same f [] h = refl
all-same {X} f (x ∷ xs) h =
    let P : X → Type 0 = λ y. f y ≡ y in
    ap (λ (y : X). y ∷ map f xs) (All-head P x xs h) ∙ ap (λ (ys : List X). x ∷ ys) (all-same f xs (All-tail P x xs h))

-- a list each of whose items was seen to stay
pub whole-same : {X : Type 0} (f : X → X) (xs : List X) (n : ℕ) → length xs ≤ n → All (λ (x : X). f x ≡ x) (take n xs) → map f xs ≡ xs
whole-same {X} f xs n le h = all-same f xs (subst (λ (ys : List X). All (λ (x : X). f x ≡ x) ys) (take_all n xs le) h)

-- ---- frames

event-in : (n : ℕ) (e : EventTold) → IsTyped (event e) → HasBodyTexts e.body → HasRanges (Some n) (frame.Event (event_part e))
event-in n e typed texts = subst (λ (p : EventFrame). HasRanges (Some n) (frame.Event p)) typed (frame-fits n (frame.Event (event_part e)) texts)

events-in : (n : ℕ) (xs : List EntryTold) → All IsMarkedInRange xs → All IsTyped xs → All HasEventTexts xs → All (IsEventInRange (Some n)) xs
events-in n [] marked typed texts = All-nil (IsEventInRange (Some n))
events-in n (event e ∷ xs) marked typed texts =
    All-cons (IsEventInRange (Some n)) (event e) xs (
      event-in n e (All-head IsTyped (event e) xs typed) (All-head HasEventTexts (event e) xs texts),
      (All-head IsMarkedInRange (event e) xs marked).1,
    )
    (events-in n xs (All-tail IsMarkedInRange (event e) xs marked) (All-tail IsTyped (event e) xs typed) (All-tail HasEventTexts (event e) xs texts))
events-in n (edit d ∷ xs) marked typed texts =
    All-cons (IsEventInRange (Some n)) (edit d) xs tt
    (events-in n xs (All-tail IsMarkedInRange (edit d) xs marked) (All-tail IsTyped (edit d) xs typed) (All-tail HasEventTexts (edit d) xs texts))

closing-in : (n : ℕ) (x : Closing) → clipped_closing x ≡ x → All (HasFrameTexts n) (closing_list x) → All (HasRanges (Some n)) (closing_list x)
closing-in n x typed texts =
    let P = HasRanges (Some n) in
    let fits = All-weaker (HasFrameTexts n) (λ (f : Frame). P (clipped_frame f)) (λ f h. frame-fits n f h) (closing_list x) texts in
    let moved = subst (λ (fs : List Frame). All P fs) (sym (closing-moved x)) (All-map P clipped_frame (closing_list x) fits) in
    subst (λ (y : Closing). All P (closing_list y)) typed moved

-- ---- runs

parent-typed : (c : CourseTold) (x : Option ℕ) → ((q : ℕ) → x ≡ Some q → All IsTyped (segment_end c.opening c.plan (segment_at c.plan q)).entries)
    → All IsTyped (parent_end c.opening c.plan x).entries
parent-typed c None h = All-nil IsTyped
parent-typed c (Some q) h = h q refl

-- the entries up to a segment's end are its own and those of earlier segments
end-typed : (c : CourseTold) (n s : ℕ) → IsTree c.plan.branches c.plan.limit → c.plan.limit ≡ c.opening.limit
    → ((k : ℕ) → k < length (segments_in c.plan) → IsTypedSegment c k) → s < n → s < length (segments_in c.plan)
    → All IsTyped (segment_end c.opening c.plan (segment_at c.plan s)).entries
end-typed c zero s tree limit typed less l = absurd (omega (arith, less))
end-typed c (suc n) s tree limit typed less l =
    let o = c.opening in
    let p = c.plan in
    let g = segment_at p s in
    let before = parent-typed c g.parent (λ q is.
    let earlier = (has_parent p s q tree l is).earlier in
    end-typed c n q tree limit typed (omega (arith, earlier, less)) (omega (arith, earlier, l))) in
    subst (λ (r : Run). All IsTyped r.entries) (sym (segment-copy o p s tree limit l))
    (All-append IsTyped (parent_end o p g.parent).entries (segment_entries o p g) before (typed s l).entries)

pub runs-in : (c : CourseTold) → IsCourse c → IsLawful c → AreNamed c → ((s : ℕ) → s < length (segments_in c.plan) → IsTypedSegment c s) → IsInRange c
runs-in c is laws named typed = record {
  names = named;
  runs = λ b l.
      let o = c.opening in
      let p = c.plan in
      let n = length o.stocks in
      let tree = course-tree c is in
      let last = last_of p.branches b in
      let there = (last-at p b l).0 in
      let r = full_run o p b in
      let whole : segment_end o p (segment_at p last) ≡ r = sym (full-last o p b tree is.limit l) in
      let texts = laws.texts b in
      let reached = laws.states b o.limit l in
      record {
        events = events-in n r.entries (laws.marked b l)
            (subst (λ (x : Run). All IsTyped x.entries) whole (end-typed c (suc last) last tree is.limit typed (omega arith) there)) texts.events;
        closing = closing-in n (closing_at o r.state)
            (subst (λ (x : Run). clipped_closing (closing_at o x.state) ≡ closing_at o x.state) whole (typed last there).closing)
            (closing-texts n o r.state (sym reached.floor.stocks) texts.stocks (laws.positions o r.state));
      };
}
