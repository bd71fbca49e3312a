-- What is written for an accepted study or a bundle that passes an audit, and how many events are simulated for it.
use Rattle.std.specs.Prelude.{◌≡◌, ℕ, Bool, ◌+◌, ◌-◌, ◌*◌, List, [], ◌∷◌, ◌++◌, length, codes}
use Rattle.std.specs.Fmt.{decimal}
use Rattle.branch_tree.specs.Segments.{segments_in}
use Rattle.shelf_core.specs.declared.plan.Key.{Key}
use Rattle.kernel_copy.specs.Segmentwise as segmentwise
use Rattle.kernel_copy.specs.Courses.{CourseTold}
use Rattle.trace_bundle.specs.Bundle.{bundle_of}
use Rattle.study_rules.specs.Accepted.{StudyTold}
use Rattle.probe_desk.specs.Probe.{Meaning}
use Rattle.study_report.specs.Tables as tables
use Rattle.trace_bundle.specs.Report.{big_lines_of}
use Rattle.rewind_desk.specs.declared.target.Target.{Target}
use Rattle.reopen_cross.specs.declared.cross.Interest.{Interest}
use Rattle.reopening_desk.specs.declared.stock.StockNamed.{StockNamed}
use Rattle.reopening_desk.specs.Reopened.{reopened}
use Rattle.bundle_reader.specs.Told.{BundleTold}
use Rattle.audit_desk.specs.Audited.{displayed_over}
use Rattle.session_desk.specs.declared.act.Act.{Act}
use Rattle.session_desk.specs.Session.{first_session}
use Rattle.session_desk.specs.Answered.{session_bytes}
use Rattle.session_desk.specs.Counted.{all_reached, all_run, surely_kept}
use Rattle.abides_run.specs.Placed.{MayBeKept, kept_under, possibly_kept}
use Rattle.abides_run.specs.Rewinds.{rewinds_of, steps_to, steps_to_all, target_state}

-- the bundle of a study: the trace of each branch
unfoldable pub study_bundle : CourseTold → List ℕ
study_bundle c = bundle_of c

-- the line with a study's counts, in which the exchange is an agent and the root a branch
abbrev pub counts_line : CourseTold → List ℕ
counts_line c =
    codes "accepted: agents " ++ decimal (length c.opening.traders + 1)
    ++ codes ", stocks " ++ decimal (length c.opening.stocks)
    ++ codes ", branches " ++ decimal (length c.plan.branches)
    ++ codes ", segments " ++ decimal (length (segments_in c.plan)) ++ 10 ∷ []

-- The probes that watch a run: what each of them keeps and says, and the head of its column.
pub record Probes : Type 0 where
  pub meanings : List Meaning
  pub titles : List (List ℕ)

-- the table that compares a study's branches, with a column for each probe
unfoldable pub study_table : Probes → CourseTold → List ℕ
study_table probes c = tables.study_table c probes.meanings probes.titles

-- the six lines that tell of the run of a study, whose text has so many bytes
unfoldable pub study_lines : ℕ → CourseTold → List ℕ
study_lines bytes c = big_lines_of bytes c

-- each segment's own events, once
unfoldable pub study_events : CourseTold → ℕ
study_events c = segmentwise.distinct c.opening c.plan

-- the line of an audit that finds nothing: how many branches the bundle has, and how many displayed orders its closings tell
abbrev pub audit_line : BundleTold → List ℕ
audit_line b = codes "audit ok: branches " ++ decimal (length b.branches) ++ codes ", orders " ++ decimal (displayed_over b.branches) ++ 10 ∷ []

-- What is due once all that the words name was found. Of a study: its bundle, the line with its counts, the table that compares its
-- branches, the lines that tell of its run, whose text has so many bytes; or, while so many grid places keep states, states, what
-- the reopening of a stock would come to in a state with these orders of a file, or the answers to the acts of a session. Of a bundle
-- whose branches all pass the audit: that they do.
pub data Due : Type 0 where
  bundled : StudyTold → Due
  counted : StudyTold → Due
  compared : StudyTold → Due
  described : ℕ → StudyTold → Due
  rewound : List Target → ℕ → StudyTold → Due
  crossed : Target → StockNamed → List Interest → ℕ → StudyTold → Due
  audited : BundleTold → Due
  carried_out : List Act → ℕ → StudyTold → Due

abbrev pub written : Probes → Due → List ℕ
written probes (bundled s) = study_bundle s.course
written probes (counted s) = counts_line s.course
written probes (compared s) = study_table probes s.course
written probes (described bytes s) = study_lines bytes s.course
written probes (rewound targets places s) = rewinds_of s.course targets
written probes (crossed target stock orders places s) = reopened (target_state s.course target) stock orders
written probes (audited b) = audit_line b
written probes (carried_out acts places s) = session_bytes probes.meanings (first_session s.course) acts

-- the steps from kept states on that the answers of acts take at least: those behind the nearest states that may be kept
abbrev pub least_reached : StudyTold → ℕ → List Act → ℕ
least_reached s places acts = all_reached (possibly_kept s.course s.stride places) (first_session s.course) acts

-- and at most: those behind the nearest states that are sure to be
abbrev pub most_reached : StudyTold → ℕ → List Act → ℕ
most_reached s places acts = all_reached (surely_kept s.course s.stride places) (first_session s.course) acts

-- The steps of a session whose acts these are, exactly: each event of the study's segments once, those of each full run that an act
-- tells values of, and those that lead to the other answers from the nearest of the states that are kept. Which of the states that
-- share a place stays there, the order of the workers' steps decides; where none share one and none lies past the end of its
-- segment's run, the number is one.
pub record SessionRose (s : StudyTold) (places : ℕ) (acts : List Act) (old new : ℕ) : Type 0 where
  pub held : Key → Bool
  pub kept : MayBeKept s.course s.stride places held
  pub rose : new ≡ old + study_events s.course + all_run (first_session s.course) acts + all_reached (kept_under s.course s.stride places held) (first_session s.course) acts

-- What a session says so of the counter, where all was written; what else is due says it by the two bounds alone.
abbrev pub RoseFor : Due → ℕ → ℕ → Type 0
RoseFor (bundled s) old new = Unit {0}
RoseFor (counted s) old new = Unit {0}
RoseFor (compared s) old new = Unit {0}
RoseFor (described bytes s) old new = Unit {0}
RoseFor (rewound targets places s) old new = Unit {0}
RoseFor (crossed target stock orders places s) old new = Unit {0}
RoseFor (audited b) old new = Unit {0}
RoseFor (carried_out acts places s) old new = SessionRose s places acts old new

-- A check and an audit simulate nothing. In a session each act that tells values runs its branch from the opening, and one that
-- tells a state or a closing goes on from a kept state of the study: of a branch that an act forked or edited, from one before its
-- stop.
abbrev pub simulated : Due → ℕ
simulated (bundled s) = study_events s.course
simulated (counted s) = 0
simulated (compared s) = study_events s.course
simulated (described bytes s) = study_events s.course
simulated (rewound targets places s) = study_events s.course
simulated (crossed target stock orders places s) = study_events s.course
simulated (audited b) = 0
simulated (carried_out acts places s) = study_events s.course + all_run (first_session s.course) acts + least_reached s places acts

-- How many steps may be made besides: those from kept states on. In a session that is none where each state that may be kept is
-- sure to be.
abbrev pub allowed : Due → ℕ
allowed (bundled s) = 0
allowed (counted s) = 0
allowed (compared s) = 0
allowed (described bytes s) = 0
allowed (rewound targets places s) = steps_to_all s places targets
allowed (crossed target stock orders places s) = steps_to s places target
allowed (audited b) = 0
allowed (carried_out acts places s) = most_reached s places acts - least_reached s places acts

-- How many steps are made at most where not all is written. An act that memory is wanting for makes no more than its study's limit
-- of events.
abbrev pub most_for : Due → ℕ
most_for (bundled s) = study_events s.course
most_for (counted s) = 0
most_for (compared s) = study_events s.course
most_for (described bytes s) = study_events s.course
most_for (rewound targets places s) = study_events s.course + steps_to_all s places targets
most_for (crossed target stock orders places s) = study_events s.course + steps_to s places target
most_for (audited b) = 0
most_for (carried_out acts places s) = study_events s.course + length acts * s.course.opening.limit
