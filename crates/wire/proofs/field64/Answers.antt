use Rattle.std.proofs.Common.{◌≡◌, ◌+◌, ◌-◌, ◌∙◌, arith}
use Rattle.std.specs.Int.{w64}
use Rattle.wire.proofs.EndianLaws.{field_from_be}
use Rattle.wire.proofs.field64.Goals as goal

pub returns : goal.returns
returns c =
    let width : c.args.at + 8 - c.args.at ≡ 8 = omega arith in
    c.from_be_bytes.ensures ∙ rw (c.copy_from_slice.ensures.after, width) (field_from_be w64 _ _ c.requires)
