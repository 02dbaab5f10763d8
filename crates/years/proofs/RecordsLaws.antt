-- A year's activity records, from what is read of its own bytes or of the plan's.
-- Assumes nothing.
use Prim.Native.Nat.{ℕ}
use mathlib.Core.Path.{◌≡◌, refl, ◌∙◌, ap, sym}
use mathlib.Core.Bool.{Bool, true, false, cond}
use mathlib.Core.Option.{Option, some}
use mathlib.Core.List.{List, []}
use lib.IntN.{pos}
use lib.ListN.{drop}
use Rattle.units.specs.declared.CarbonUnits.{CarbonUnits}
use Rattle.units.specs.declared.Grams.{Grams}
use Rattle.activity.specs.Records.{Activity}
use Rattle.activity.specs.Activity.{activity_emissions}
use Rattle.figures.specs.declared.YearDays.{YearDays}
use Rattle.dossier.specs.Marks.{mark_pl}
use Rattle.dossier.specs.Reader.{Judged, refused, accepted, after, followed, give, stands, is}
use Rattle.dossier.specs.Judging.{activities, taken}
use Rattle.dossier.proofs.ReaderLaws.{no, was, bind_no, bind-yes, made_no, made-yes}
use Rattle.dossier.proofs.TakenLaws.{taken-planned, taken_own}
use Rattle.activities.specs.Answers.{summed_activities}
use Rattle.years.specs.Answers.{Summary}
use Rattle.years.proofs.YearLaws.{summarized_records}

-- the sum of the emissions of records, made of the records
pub made : List Activity → Grams
made l = record { 0 = pos (activity_emissions l) }

-- the year's summary, with records or PL
abbrev pub summed : YearDays → (project belt : CarbonUnits) → Bool → Grams → Summary
summed days project belt planned grams = record { days = days; project = project; belt = belt; planned = planned; activity = grams }

module _ (from_plan : Option (List Activity)) (days : YearDays) (project belt : CarbonUnits) (s : List ℕ) where
  -- ---- the records l of the plan's part, where it has the year
  module _ (part : List ℕ) (l : List Activity) (rest : List ℕ) (e : activities [] part ≡ accepted l rest) (there : from_plan ≡ some l) (h : stands (is mark_pl) s ≡ true) where
    pub run_says_lem : (j : Judged Grams) → j ≡ summed_activities part → j ≡ accepted (made l) rest
    unfolding summed_activities made followed give
    run_says_lem j says = says ∙ rw e

    pub planned_no : (n : ℕ) → refused n ≡ summed_activities part → refused n ≡ summarized_records from_plan days project belt s
    planned_no n q = no _ _ _ (run_says_lem (refused n) q)

    pub planned-yes : (grams : Grams) (left : List ℕ) → accepted grams left ≡ summed_activities part → accepted (summed days project belt true grams) (drop 2 s) ≡ summarized_records from_plan days project belt s
    unfolding summarized_records give
    planned-yes grams left q =
        let same : grams ≡ made l = (was (run_says_lem (accepted grams left) q)).0 in
        rw (same, there) (unfold made in bind-yes (taken (some l)) _ s _ (drop 2 s) (sym (taken-planned l s h)))

  -- ---- own records
  module _ (h : stands (is mark_pl) s ≡ false) where
    pub own_no : (n : ℕ) → refused n ≡ summed_activities s → refused n ≡ summarized_records from_plan days project belt s
    unfolding summarized_records summed_activities made followed
    own_no n q =
        let stopped : refused n ≡ activities [] s = made_no (activities [] s) made n q in
        bind_no (taken from_plan) _ s n (rw (taken_own from_plan s h, ← stopped))

    pub own-yes : (grams : Grams) (rest : List ℕ) → accepted grams rest ≡ summed_activities s → accepted (summed days project belt false grams) rest ≡ summarized_records from_plan days project belt s
    unfolding summarized_records summed_activities made give followed
    own-yes grams rest q =
        let read = made-yes (activities [] s) made grams rest q in
        let own : accepted (record { planned = false; activities = read.value }) rest ≡ taken from_plan s =
        ap (λ (j : Judged (List Activity)). after j (λ l. accepted (record { planned = false; activities = l }))) read.judged
        ∙ sym (taken_own from_plan s h) in
        rw read.made (bind-yes (taken from_plan) _ s _ rest own)

  -- ---- whichever stands, by the part that is read: the plan's where PL stands, otherwise what is left of the dossier
  module _ (part : List ℕ) (b : Bool) (h : b ≡ stands (is mark_pl) s)
      (there : b ≡ true → (l : List Activity) × (rest : List ℕ) × (activities [] part ≡ accepted l rest) × (from_plan ≡ some l)) where
    pub run-refused : (n : ℕ) → refused n ≡ summed_activities (cond b part s) → refused n ≡ summarized_records from_plan days project belt s
    run-refused n says = go b h there says
      where
        go : (b : Bool) → b ≡ stands (is mark_pl) s → (b ≡ true → (l : List Activity) × (rest : List ℕ) × (activities [] part ≡ accepted l rest) × (from_plan ≡ some l))
            → refused n ≡ summed_activities (cond b part s) → refused n ≡ summarized_records from_plan days project belt s
        go true h there says = let (l, rest, e, f) = there refl in planned_no part l rest e f (sym h) n says
        go false h there says = own_no (sym h) n says

    pub run-read : (grams : Grams) (rest : List ℕ) → accepted grams rest ≡ summed_activities (cond b part s)
        → accepted (summed days project belt b grams) (cond b (drop 2 s) rest) ≡ summarized_records from_plan days project belt s
    run-read grams rest says = go b h there says
      where
        go : (b : Bool) → b ≡ stands (is mark_pl) s → (b ≡ true → (l : List Activity) × (rest : List ℕ) × (activities [] part ≡ accepted l rest) × (from_plan ≡ some l))
            → accepted grams rest ≡ summed_activities (cond b part s) → accepted (summed days project belt b grams) (cond b (drop 2 s) rest) ≡ summarized_records from_plan days project belt s
        go true h there says = let (l, left, e, f) = there refl in planned-yes part l left e f (sym h) grams rest says
        go false h there says = own-yes (sym h) grams rest says
