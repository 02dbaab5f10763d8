use Rattle.std.proofs.Common.{◌≡◌, ◌+◌, ◌*◌, length, take}
use Rattle.arithmetic.specs.Sum.{sum, listed}
use Rattle.classes.specs.Matrix.{entry}
use Rattle.projection.specs.Projection.{flow, next_area}
use Rattle.projection.specs.Inflow.{inflow_carbon}
use Rattle.projection.proofs.Region.flows.Given as goal

-- the next areas and the carbon of the classes so far
abbrev pub invariant-loop-class : goal.invariant-loop-class
invariant-loop-class l = record {
  twelve : length l.areas ≡ 12;
  stored : take l.class l.areas ≡ listed l.class (λ j. record { 0 = next_area l.self.areas l.matrix j });
  carbon : l.carbon.0 ≡ sum l.class (inflow_carbon (entry l.factors) l.self.areas l.matrix);
}

-- what flowed into the class so far, and its carbon beside that of the classes before
abbrev pub invariant-loop-from : goal.invariant-loop-from
invariant-loop-from l = record {
  area : l.area.0 ≡ sum l.from (λ i. flow l.self.areas l.matrix i l.class);
  carbon : l.carbon.0 ≡ sum l.class (inflow_carbon (entry l.factors) l.self.areas l.matrix) + sum l.from (λ i. flow l.self.areas l.matrix i l.class * entry l.factors i l.class);
}
