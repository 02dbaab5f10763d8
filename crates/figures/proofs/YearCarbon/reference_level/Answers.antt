use Rattle.std.proofs.Common.{arith}
use Rattle.std.proofs.lemmas.Int.{ints}
use Rattle.figures.proofs.FiguresLaws.{reference-small, reference_split}
use Rattle.figures.proofs.YearCarbon.reference_level.Goals as goal

pub returns-clause-value : goal.returns-clause-value
returns-clause-value c =
    rw (← c.self.view_is, ← c.days.view_is) (omega (arith, ints, reference_split c.self.invariant.0 _ c.days.invariant, reference-small c.self.invariant.0 _ c.days.invariant))

pub returns-clause-small : goal.returns-clause-small
returns-clause-small c = omega (arith, ints, reference_split c.self.invariant.0 _ c.days.invariant, reference-small c.self.invariant.0 _ c.days.invariant)
