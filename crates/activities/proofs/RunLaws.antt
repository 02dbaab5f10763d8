-- The run of activity records: where the loop stands, what one more record changes, and what each way out of the loop says.
-- Assumes nothing.
use Prim.Native.Nat.{ℕ, ◌+◌, ◌≤◌, ◌<◌}
use mathlib.Core.Path.{◌≡◌, refl, ◌∙◌, sym}
use mathlib.Core.Bool.{Bool, true, false, cond}
use mathlib.Core.Logic.{inl, inr}
use mathlib.Core.List.{List, [], ◌∷◌, ◌++◌}
use native.Mathlib.Nat.{add_assoc}
use native.Mathlib.Omega.{arith}
use borrow.Author.Rules.{sfits_of}
use borrow.Author.Tests.{lt-ltb, eq-eqb, ne_eqb}
use lib.Dec.{eqb}
use lib.IntN.{pos, ◌+ℤ◌}
use lib.ListN.{length}
use Rattle.std.proofs.lemmas.List.{length-map}
use mir.Syntax.{w64}
use mir.Val.{SFits, bool_byte}
use Rattle.std.specs.Prelude.{Result, Ok, Err}
use Rattle.units.specs.declared.Grams.{Grams}
use Rattle.refusals.specs.declared.Refusal.{Refusal}
use Rattle.refusals.specs.declared.Refusal.TheVariants.{TooManyActivities}
use Rattle.refusals.specs.Refusals.{number_of}
use Rattle.activity.specs.Records.{Activity}
use Rattle.activity.specs.declared.Words.{Words}
use Rattle.activity.specs.Activity.{ActivityInRange, residues, activity_grams, activity_emissions}
use Rattle.activity.specs.Key.{key}
use Rattle.activity.proofs.ActivityLaws.{grams_le, emissions-le}
use Rattle.pairs.specs.Pairs.{some_equal}
use Rattle.dossier.specs.Marks.{mark_cr}
use Rattle.dossier.specs.Reader.{refused, accepted, stands, upon, followed}
use Rattle.dossier.specs.JudgingRecords.{activity_mark, activity_under}
use Rattle.dossier.specs.Judging.{third_residue, another, activities}
use Rattle.dossier.proofs.RunLaws.{activities_are, activities_one, too_many, activities-over}
use Rattle.dossier.proofs.ResidueLaws.{one_residue_more, residue-mark, third_counted, another-yes}
use Rattle.dossier.proofs.ActivityLaws.{activity-is, under-mark, under_range}
use Rattle.dossier.proofs.ReaderLaws.{stands_short, stands_here}
use Rattle.activities.specs.Answers.{Marked, Keyed, RecordsSaid}
use Rattle.activities.proofs.KeyedLaws.{keyed-more, judged-more}

-- ---- a list of records with one more at its end
emissions-more : (l : List Activity) (a : Activity) → activity_emissions (l ++ (a ∷ [])) ≡ activity_emissions l + activity_grams a
unfolding activity_emissions
emissions-more [] a = omega arith
emissions-more (b ∷ l) a = rw (emissions-more l a, add_assoc)

byte-is : (b : Bool) → bool_byte b ≡ cond b 1 0
byte-is true = refl
byte-is false = refl

-- ---- the records before the rest, in range, keyed and summed; the run goes on with the rest after them, unless two are equal
pub record SoFar (old : List ℕ) (keys : List Words) (rest : List ℕ) (grams : Grams) (residue_count : ℕ) : Type 0 where
  pub records : List Activity
  pub keyed : Keyed records keys
  pub of_residue : residues records ≡ residue_count
  pub few_residues : residue_count ≤ 2
  pub summed : grams.0 ≡ pos (activity_emissions records)
  pub goes_on : activities [] old ≡ cond (some_equal keys) (refused 14) (activities records rest)

pub none_yet : (s : List ℕ) → SoFar s [] s (record { 0 = pos 0 }) 0
unfolding activity_emissions some_equal
none_yet s = record {
  records = [];
  keyed = record { few = omega arith; in_range = tt; told = refl };
  of_residue = refl;
  few_residues = omega arith;
  summed = refl;
  goes_on = refl;
}

module _ {old : List ℕ} {keys : List Words} {rest : List ℕ} {grams : Grams} {residue_count : ℕ} (l : SoFar old keys rest grams residue_count) where
  over : stands activity_mark rest ≡ false → RecordsSaid old keys (Ok grams) rest
  over f = record {
    records = l.records;
    keyed = l.keyed;
    summed = l.summed;
    judged = l.goes_on ∙ rw (activities-over l.records rest f);
  }

  stopped : (refusal : Refusal) (new : List ℕ) → activities l.records rest ≡ refused (number_of refusal) → RecordsSaid old keys (Err refusal) new
  stopped refusal new e = record { records = l.records; keyed = l.keyed; summed = tt; judged = l.goes_on ∙ rw e }

  -- no mark stands here
  pub ended : length rest < 2 → RecordsSaid old keys (Ok grams) rest
  ended h = over (stands_short activity_mark rest h)

  -- the mark m does
  module _ {m : ℕ} {fields : List ℕ} (marked : Marked rest m fields) where
    due-is : stands activity_mark rest ≡ activity_mark m
    due-is = stands_here activity_mark rest marked.long ∙ rw (← marked.mark)

    -- none of an activity record
    pub other : activity_mark m ≡ false → RecordsSaid old keys (Ok grams) rest
    other f = over (due-is ∙ f)

    keys_count : length keys ≡ length l.records
    keys_count = rw (l.keyed.told, length-map l.records key) refl

    -- after sixty records
    pub full : 60 ≤ length keys → activity_mark m ≡ true → (new : List ℕ) → RecordsSaid old keys (Err TooManyActivities) new
    full k t new = stopped TooManyActivities new (too_many l.records rest (inl (omega (arith, keys_count), due-is ∙ t)))

    module _ (more : ℕ) (counted : more ≡ residue_count + bool_byte (eqb m mark_cr)) where
      w : more ≡ residue_count + cond (eqb m mark_cr) 1 0
      w = counted ∙ rw (byte-is (eqb m mark_cr)) refl

      third_is : stands (third_residue l.records) rest ≡ eqb more 3
      third_is = stands_here (third_residue l.records) rest marked.long ∙ rw (← marked.mark) (third_counted l.records m more (w ∙ rw l.of_residue) (omega (arith, l.few_residues, l.of_residue)))

      -- a third CR
      pub third : 2 < more → (new : List ℕ) → RecordsSaid old keys (Err TooManyActivities) new
      third k new =
          let three : more ≡ 3 = bounded (eqb m mark_cr) w in
          stopped TooManyActivities new (too_many l.records rest (inr (third_is ∙ eq-eqb more 3 three)))
        where
          bounded : (b : Bool) → more ≡ residue_count + cond b 1 0 → more ≡ 3
          bounded true q = omega (arith, l.few_residues)
          bounded false q = omega (arith, l.few_residues)

      module _ (few : more ≤ 2) (less : length keys < 60) where
        reads : another l.records rest ≡ activity_under m fields
        reads = another-yes l.records rest (third_is ∙ ne_eqb more 3 (λ z. omega arith)) ∙ activity-is rest marked.long ∙ rw (← marked.mark, ← marked.after)

        -- a record that is refused
        pub faulty : (refusal : Refusal) → (activity_mark m ≡ true) × (refused (number_of refusal) ≡ activity_under m fields) → (result : Result Grams Refusal) → result ≡ Err refusal → (new : List ℕ)
            → RecordsSaid old keys result new
        unfolding upon followed
        faulty refusal (t, q) result out new =
            let a : another l.records rest ≡ refused (number_of refusal) = reads ∙ sym q in
            rw out (stopped refusal new (activities_are l.records rest ∙ rw (due-is, t, lt-ltb (length l.records) 60 (omega (arith, keys_count)), a)))

        -- a record that is read: it is in range, the sum with its grams fits, and the loop goes on after it
        module _ (a : Activity) (new : List ℕ) (says : (activity_mark m ≡ true) × (accepted a new ≡ activity_under m fields)) where
          read_range : ActivityInRange a
          read_range = under_range m fields (sym says.1)

          module _ (g : Grams) (p : g.0 ≡ pos (activity_grams a)) where
            pub sum_fits : SFits w64 (grams.0 +ℤ g.0)
            sum_fits = rw (l.summed, p) (sfits_of (omega (arith, emissions-le l.records l.keyed.in_range, grams_le a read_range, keys_count)))

            pub one_more_lem : (kept : List Words) → kept ≡ keys ++ key a ∷ [] → (sum : Grams) → sum.0 ≡ grams.0 +ℤ g.0 → SoFar old kept new sum more
            one_more_lem kept same sum d =
                let read : another l.records rest ≡ accepted a new = reads ∙ sym says.1 in
                let residue : residues (l.records ++ (a ∷ [])) ≡ more = one_residue_more l.records a ∙ rw (l.of_residue, residue-mark a, ← under-mark m _ (sym says.1)) (sym w) in
                rw same (record {
                  records = l.records ++ (a ∷ []);
                  keyed = keyed-more l.keyed a read_range (omega (arith, keys_count));
                  of_residue = residue;
                  few_residues = few;
                  summed = d ∙ rw (l.summed, p, emissions-more);
                  goes_on =
                      l.goes_on
                      ∙ judged-more l.keyed a read_range _ _ (activities_one l.records rest (omega (arith, keys_count)) (due-is ∙ says.0) read);
                })
