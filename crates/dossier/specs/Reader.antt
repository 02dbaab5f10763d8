-- Document 01, "Causes and numbers": judging bytes from their start. A reader refuses them with a cause's number, or accepts a value and leaves
-- the bytes that follow it.
-- To be believed. Assumes nothing.
use Rattle.std.specs.Prelude.{ℕ, ◌*◌, Bool, true, false, cond, List, ltb, eqb, length, take, drop}
use Rattle.std.proofs.Math.Option.{Option, none, some}
use Rattle.wire.specs.Bytes.{number, numbers}
use Rattle.dossier.specs.Causes.{bytes_missing, mark_not_due}

infixr 10 ◌>>=◌ ◌>>◌
pub data Judged (A : Type 0) : Type 0 where
  refused : ℕ → Judged A
  accepted : A → List ℕ → Judged A

abbrev pub Reader : Type 0 → Type 0
Reader A = List ℕ → Judged A

-- "Records are judged in order; the first fault counts": what is refused stays refused with its number, what is accepted is followed by f
abbrev pub after : {A B : Type 0} → Judged A → (A → Reader B) → Judged B
after (refused n) f = refused n
after (accepted a rest) f = f a rest

-- one reader, then another (the line after, in a do block)
unfoldable pub followed : {A B : Type 0} → Reader A → (A → Reader B) → Reader B
followed r f s = after (r s) f

abbrev pub ◌>>=◌ : {A B : Type 0} → Reader A → (A → Reader B) → Reader B
◌>>=◌ = followed

abbrev pub ◌>>◌ : {A B : Type 0} → Reader A → Reader B → Reader B
◌>>◌ r q = followed r (λ _. q)

-- this value, whatever follows
unfoldable pub give : {A : Type 0} → A → Reader A
give a s = accepted a s

-- this number, whatever follows
unfoldable pub refuse : {A : Type 0} → ℕ → Reader A
refuse n s = refused n

-- the mark m is due: "bytes end before or inside a mark still needed", or "mark not due here"
unfoldable pub mark : ℕ → Reader (Unit {0})
mark m s = cond (ltb (length s) 2) (refused bytes_missing) (cond (eqb (number (take 2 s)) m) (accepted tt (drop 2 s)) (refused mark_not_due))

-- whether a mark of some kind stands here
unfoldable pub stands : (ℕ → Bool) → List ℕ → Bool
stands kind s = cond (ltb (length s) 2) false (kind (number (take 2 s)))

-- the kind of one mark alone, m
abbrev pub is : (m x : ℕ) → Bool
is m x = eqb x m

-- goes on with r if a mark of that kind stands here, with q if not
unfoldable pub upon : {A : Type 0} (kind : ℕ → Bool) (r q : Reader A) → Reader A
upon kind r q s = cond (stands kind s) (r s) (q s)

-- a value where one is there, and none where not
unfoldable pub if_any : {A : Type 0} (there : List ℕ → Bool) → Reader A → Reader (Option A)
if_any there r s = cond (there s) ((do a ← r; give (some a)) s) (give none s)

-- "or inside a record": fewer than n bytes are left
unfoldable pub present : ℕ → Reader (Unit {0})
present n s = cond (ltb (length s) n) (refused bytes_missing) (accepted tt s)

-- a record with n bytes of fields: its mark m, then bytes missing, and the fields only after these
unfoldable pub begin : (m n : ℕ) → Reader (Unit {0})
begin m n = do
  mark m
  present n

-- a field of w bytes
unfoldable pub field : ℕ → Reader ℕ
field w s = accepted (number (take w s)) (drop w s)

-- k fields of w bytes each
unfoldable pub fields : (k w : ℕ) → Reader (List ℕ)
fields k w s = accepted (numbers k w s) (drop (k * w) s)

-- whether x is below the range or above it
unfoldable pub outside : (low x high : ℕ) → Bool
outside low x high = cond (ltb x low) true (ltb high x)

-- refuses for the cause where x is out of range
unfoldable pub within : (cause low x high : ℕ) → Reader (Unit {0})
within cause low x high s = cond (outside low x high) (refused cause) (accepted tt s)

-- refuses for the cause unless x and y are equal
unfoldable pub equal : (cause x y : ℕ) → Reader (Unit {0})
equal cause x y s = cond (eqb x y) (accepted tt s) (refused cause)

-- refuses for the cause unless the test holds
unfoldable pub holds : (cause : ℕ) → Bool → Reader (Unit {0})
holds cause test s = cond test (accepted tt s) (refused cause)

-- "nothing after it": any byte more is 2
unfoldable pub nothing : Reader (Unit {0})
nothing s = cond (ltb 0 (length s)) (refused mark_not_due) (accepted tt s)

-- the end of a piece: "a lone byte left over there is 1, any mark beyond the piece 2"
unfoldable pub end_of_piece : Reader (Unit {0})
end_of_piece s = cond (eqb (length s) 1) (refused bytes_missing) (nothing s)
