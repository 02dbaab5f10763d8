-- The terms and the state of a ledger whose opening was refused: all zeros.
-- To be believed. Assumes nothing.
use Rattle.std.specs.Prelude.{pos, replicate}
use Rattle.projection.specs.Projection.{opened_region}
use Rattle.figures.specs.declared.State.{State}
use Rattle.figures.specs.declared.Terms.{Terms}

abbrev pub no_terms : Terms
no_terms = record { option = 0; stocks = replicate 12 0; matrix = replicate 144 0; start = record { 0 = 0 }; beltstart = record { 0 = 0 } }

abbrev pub no_state : State
no_state = record {
  year = 0;
  left = 0;
  project = opened_region (replicate 12 (record { 0 = 0 }));
  belt = opened_region (replicate 12 (record { 0 = 0 }));
  total = record { 0 = pos 0 };
}
