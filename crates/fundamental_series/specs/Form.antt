-- How a series is kept.
use Rattle.fundamental_series.specs.declared.series.Form.{Form}
use Rattle.fundamental_series.specs.declared.series.Form.TheVariants.{Rule, Rows}
use Rattle.fundamental_series.specs.Made.{Made, by_rule, by_rows}

-- what a series that is kept so was made of
abbrev pub made_of : Form → Made
made_of (Rule table) = by_rule table
made_of (Rows rows) = by_rows rows
