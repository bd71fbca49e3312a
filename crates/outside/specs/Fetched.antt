use Rattle.outside.specs.Files.{Content, absent, too_long, whole}
use Rattle.outside.specs.declared.fetched.Fetched.{Fetched}
use Rattle.outside.specs.declared.fetched.Fetched.TheVariants.{Absent, TooLong, Whole}

-- What an answer says, its bytes as a list.
abbrev pub content_of : Fetched → Content
content_of Absent = absent
content_of TooLong = too_long
content_of (Whole bytes) = whole bytes.items
