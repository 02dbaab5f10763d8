-- HD, from the fields that are read and the tests of them.
-- Assumes nothing.
use Prim.Native.Nat.{ℕ}
use mathlib.Core.Path.{◌≡◌}
use mathlib.Core.Bool.{Bool, true, false, cond}
use mathlib.Core.List.{List}
use lib.ListN.{drop}
use Rattle.wire.specs.Bytes.{field_at}
use Rattle.dossier.specs.Marks.{mark_hd}
use Rattle.dossier.specs.Reader.{refused, accepted, begin, outside}
use Rattle.dossier.specs.JudgingRecords.{head}
use Rattle.cursor.proofs.AtLaws.{begun_says, begun-yes, reading}
use Rattle.dossier.specs.Records.{Head}

abbrev pub head_of : ℕ → ℕ → ℕ → Head
head_of option first years = record { option = option; first_year = first; years = years }

module _ (s : List ℕ) (r : ℕ) (h : begun_says s 0 r ≡ begin mark_hd 4 s) where
  module _ (z : r ≡ 0) (o f y : ℕ) (eo : o ≡ field_at 1 s 2) (ef : f ≡ field_at 2 s 3) (ey : y ≡ field_at 1 s 5) where
    pub head_at : head s ≡
        cond (outside 1 o 2) (refused 3) (cond (outside 2000 f 2200) (refused 3) (cond (outside 1 y 20) (refused 3) (accepted (head_of o f y) (drop 6 s))))
    unfolding head
    head_at = rw (← begun-yes s 0 mark_hd 4 r h _ z) (simp (reading, ← eo, ← ef, ← ey))

    module _ (a : Bool) (p : a ≡ outside 1 o 2) where
      pub option_out : a ≡ true → refused 3 ≡ head s
      option_out a' = rw (head_at, ← p, a')

      module _ (a' : a ≡ false) (b : Bool) (q : b ≡ outside 2000 f 2200) where
        pub first_out : b ≡ true → refused 3 ≡ head s
        first_out b' = rw (head_at, ← p, a', ← q, b')

        module _ (b' : b ≡ false) (d : Bool) (t : d ≡ outside 1 y 20) where
          pub years_out : d ≡ true → refused 3 ≡ head s
          years_out d' = rw (head_at, ← p, a', ← q, b', ← t, d')

          pub head_read : d ≡ false → accepted (head_of o f y) (drop 6 s) ≡ head s
          head_read d' = rw (head_at, ← p, a', ← q, b', ← t, d')
