-- The nine boxes of an accepted property are an accepted file again where their rows fit: so what is said of two files, one with operator 10 and one with nine boxes, is said of something.
-- Its theorems that rest on a definition which a must-fail edit turns stand in proofs/Theorems/Levels/Nine/Filed.
use Rattle.std.specs.Prelude.{◌≡◌, refl, ◌⊎◌, Bool, false, List, [], ◌∷◌, ◌++◌, ℕ, zero, suc, ◌+◌, ◌≤◌, ◌<◌, length, set}
use Rattle.std.proofs.Common.{sym, ap, ◌∙◌, inl, inr, suc-le-suc, arith}
use Rattle.std.proofs.Math.Option.{Option, none, some}
use Rattle.std.proofs.Math.Decide.{ℕ_discrete, dec_le}
use Rattle.files.specs.Basics.Tables.{tally, tally_same}
use Rattle.files.specs.Basics.Tests.{one}
use Rattle.files.specs.Decode.{RowIn}
use Rattle.files.specs.Property.{Row, both, box, row, is_either}
use Rattle.judging.specs.Levels.Nine.{nine_rows, any_operand, nine_if, nine_below, all_nine, JoinsNew, Spells, SpellsOut, as_is, one_more}

-- ---- methods 1..8, labels 0..8: the rows that come have the nine labels

abbrev AllIn : List Row → Type 0
AllIn [] = Unit {0}
AllIn (x ∷ xs) = RowIn x × AllIn xs

pub all_in : (P : List Row) → ((r : ℕ) → r < length P → RowIn (row P r)) → AllIn P
all_in [] f = tt
all_in (x ∷ xs) f = (f zero (omega arith), all_in xs (λ r h. f (suc r) (suc-le-suc h)))

-- any number will do: past the last row `row` says `never`
pub row_in : (P : List Row) → AllIn P → (r : ℕ) → RowIn (row P r)
row_in [] k r = tt
row_in (x ∷ xs) k zero = k.0
row_in (x ∷ xs) k (suc r) = row_in xs k.1 r

set_in : (P : List Row) (r : ℕ) (y : Row) → RowIn y → AllIn P → AllIn (set P r y)
set_in [] r y h k = tt
set_in (x ∷ xs) zero y h k = (h, k.1)
set_in (x ∷ xs) (suc r) y h k = (k.0, set_in xs r y h k.1)

append_in : (P Q : List Row) → AllIn P → AllIn Q → AllIn (P ++ Q)
append_in [] Q h k = k
append_in (x ∷ xs) Q h k = (h.0, append_in xs Q h.1 k)

nine_rows_in : (n a : ℕ) → AllIn (nine_rows n a)
nine_rows_in n a =
    (omega arith, (omega arith, (omega arith, (omega arith, (omega arith, (omega arith, (omega arith, (omega arith, (omega arith, (tt, (tt, (tt, (tt, (tt, (tt, (tt, tt))))))))))))))))

pub all_nine_in : (P : List Row) → AllIn P → AllIn (all_nine P)
unfolding all_nine nine_below
all_nine_in P h = below (length P)
  where
    step : (Q : List Row) (k : ℕ) (o : Option ℕ) → AllIn Q → AllIn (nine_if Q k o)
    step Q k none q = q
    step Q k (some a) q = append_in (set Q k (both (length Q) (length Q + 9))) (nine_rows (length Q) a) (set_in Q k (both (length Q) (length Q + 9)) tt q) (nine_rows_in (length Q) a)

    below : (k : ℕ) → AllIn (nine_below P k)
    below zero = h
    below (suc k) = step (nine_below P k) k (any_operand (row (nine_below P k) k)) (below k)

-- ---- "or"s

-- where none passes from m on, the tally is that below m
tally_rest : (p : ℕ → Bool) (m n : ℕ) → m ≤ n → ((i : ℕ) → m ≤ i → i < n → p i ≡ false) → tally p n ≡ tally p m
tally_rest p m zero h f = let e : m ≡ 0 = omega arith in rw e refl
tally_rest p m (suc n) h f = go (dec_le m n) (λ k. tally_rest p m n k (λ i a b. f i a (omega arith)))
  where
    go : Dec (m ≤ n) → (m ≤ n → tally p n ≡ tally p m) → one (p n) + tally p n ≡ tally p m
    go (yes k) u = omega (arith, ap one (f n k (omega arith)), u k)
    go (no k) u = let e : m ≡ suc n = omega arith in rw e refl

abbrev ors : List Row → ℕ
ors P = tally (λ r. is_either (row P r)) (length P)

-- boxes and "and"s in the place of an operator 10 are no "or"s
spells_ors : (P Q : List Row) (r a : ℕ) → Spells P Q r a → ors Q ≡ ors P
spells_ors P Q r a s =
    tally_rest (λ q. is_either (row Q q)) (length P) (length Q) s.longer (λ q h l. new (row Q q) (s.fresh q (h, l)))
    ∙ tally_same (λ q. is_either (row Q q)) (λ q. is_either (row P q)) (length P) (λ q h. old q h (ℕ_discrete q r))
  where
    joined : (x : Row) → JoinsNew P Q x → is_either x ≡ false
    joined x j = ap is_either j.2

    new : (x : Row) → ((l : ℕ) × (x ≡ box l a)) ⊎ JoinsNew P Q x → is_either x ≡ false
    new x (inl b) = ap is_either b.1
    new x (inr j) = joined x j

    old : (q : ℕ) → q < length P → Dec (q ≡ r) → is_either (row Q q) ≡ is_either (row P q)
    old q h (yes e) = rw e (joined (row Q r) s.joins ∙ sym (ap is_either s.is_any))
    old q h (no e) = ap is_either (s.same q h e)

pub spelled_ors : (P Q : List Row) → SpellsOut P Q → ors Q ≡ ors P
spelled_ors P Q as_is = refl
spelled_ors P Q (one_more M _ r a out s) = spells_ors M Q r a s ∙ spelled_ors P M out
