use Rattle.std.proofs.Common.{replicate, ap, ◌∙◌, sym}
use Rattle.level.specs.Contents.{content_bytes}
use Rattle.level.proofs.Recorded.{record_written, record_fits}
use Rattle.level.proofs.content.PlaceContentFill.fill.Goals as goal

pub returns-in-Record : goal.returns-in-Record
returns-in-Record c =
    record_written c.in-Record.code c.fill.new.self c.write_code.new.out c.write_code.result
    (c.fill.ensures.after (λ y e. e) ∙ ap (λ n. replicate n 0) c.requires) c.write_code.ensures ∙ ap content_bytes (sym c.in-Record.is)

pub unwrap-requires : goal.unwrap-requires
unwrap-requires c = record_fits c.in-Record.code c.fill.new.self _ _ (c.fill.ensures.after (λ y e. e) ∙ ap (λ n. replicate n 0) c.requires) c.write_code.ensures
