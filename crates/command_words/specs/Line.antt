-- The command line, as one simple command of `clap`.
use Rattle.std.specs.Prelude.{codes, true, List, [], ◌∷◌, Option, Some, None, map, option_and_then, unwrap_or, if◌then◌else◌}
use Rattle.clap.specs.Words.{App, Row, Rule, Text, all_of, fault_of, first_of, matches_of, new_app, new_rule, with_rule}
use Rattle.clap.specs.Simple.{on_top}
use Rattle.clap.specs.Walk.{is_empty}
use Rattle.clap.specs.declared.builder.ArgAction.TheVariants.{Append}
use Rattle.command_words.specs.declared.line.Line.{Line}

-- the words come without the program's name
abbrev pub bare : App → App
bare = on_top (λ s. record s { no_binary_name = true })

abbrev pub command_rule : Rule
command_rule = record (new_rule (codes "command")) { required = true }

abbrev pub study_rule : Rule
study_rule = record (new_rule (codes "study")) { required = true }

abbrev pub more_rule : Rule
more_rule = record (new_rule (codes "more")) { action = Some Append }

abbrev pub workers_rule : Rule
workers_rule = record (new_rule (codes "workers")) { long = Some (codes "workers"); defaults = codes "1" ∷ [] }

abbrev pub places_rule : Rule
places_rule = record (new_rule (codes "places")) { long = Some (codes "places"); defaults = codes "16" ∷ [] }

-- the positionals COMMAND, STUDY and MORE, and the two options with their defaults
abbrev pub abides : App
abides =
    with_rule (with_rule (with_rule (with_rule (with_rule (bare (new_app (codes "abides"))) command_rule) study_rule) more_rule) workers_rule) places_rule

-- the parts of a command line, as they were written
pub record Parts : Type 0 where
  pub command : Text
  pub study : Text
  pub more : List Text
  pub workers : Text
  pub places : Text

-- the parts, where those that a line needs are there
abbrev pub parts_from : Option Text → Option Text → List Text → Option Text → Option Text → Option Parts
parts_from (Some command) (Some study) more (Some workers) (Some places) =
    Some (record { command = command; study = study; more = more; workers = workers; places = places })
parts_from _ _ _ _ _ = None

abbrev pub parts_of : List Row → Option Parts
parts_of rows =
    parts_from (first_of (codes "command") rows) (first_of (codes "study") rows) (unwrap_or (all_of (codes "more") rows) [])
    (first_of (codes "workers") rows) (first_of (codes "places") rows)

-- the matches of the words, where the command takes them
unfoldable pub rows_for : List Text → Option (List Row)
rows_for words = if is_empty (fault_of abides words) then Some (matches_of abides words) else None

-- the parts of the words, where the command takes them
abbrev pub line_of : List Text → Option Parts
line_of words = option_and_then parts_of (rows_for words)

-- the parts that a line lends
abbrev pub parts_seen : Line → Parts
parts_seen line = record {
  command = line.command.now;
  study = line.study.now;
  more = map (λ word. word.now) line.more.items;
  workers = line.workers.now;
  places = line.places.now;
}
