-- What a level writes into a place.
use Rattle.std.specs.Prelude.{ℕ, List}
use Rattle.level.specs.declared.content.PlaceContent.{PlaceContent}
use Rattle.level.specs.declared.content.PlaceContent.TheVariants as content
use Rattle.level.specs.Records.{record_bytes}

-- what a place is filled with
abbrev pub content_bytes : PlaceContent → List ℕ
content_bytes (content.Bytes bs) = bs
content_bytes (content.Record c) = record_bytes c
