use Rattle.std.proofs.Common.{◌∙◌, inr, ap}
use Rattle.csv.specs.Reading.{builder_config, builder_is_flexible, builder_names_headers, builder_trim}
use Rattle.study_market.proofs.file.record_reader.Goals as goal

pub returns-clause-untrimmed : goal.returns-clause-untrimmed
returns-clause-untrimmed c =
    c.from_reader.ensures.trim ∙ ap builder_trim c.flexible.ensures ∙ ap builder_trim c.has_headers.ensures ∙ c.new.ensures.trim

pub returns-clause-flexible : goal.returns-clause-flexible
returns-clause-flexible c = c.from_reader.ensures.flexible ∙ ap builder_is_flexible c.flexible.ensures

pub returns-clause-ready : goal.returns-clause-ready
returns-clause-ready c =
    inr (inr (c.from_reader.ensures.has_headers ∙ ap builder_names_headers c.flexible.ensures ∙ ap builder_names_headers c.has_headers.ensures, c.from_reader.ensures.headers))

pub returns-clause-config : goal.returns-clause-config
returns-clause-config c =
    c.from_reader.ensures.config ∙ ap builder_config c.flexible.ensures ∙ ap builder_config c.has_headers.ensures ∙ c.new.ensures.config
