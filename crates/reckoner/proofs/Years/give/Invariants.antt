use Rattle.reckoner.proofs.GivenLaws.{SoFar}
use Rattle.reckoner.proofs.Years.give.Given as goal

abbrev pub invariant-loop : goal.invariant-loop
invariant-loop l = SoFar l.fn.plan.years l.fn.terms l.fn.count l.fn.self l.fn.reader l.counter l.self l.reader
