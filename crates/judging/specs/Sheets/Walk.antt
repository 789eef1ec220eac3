-- The walk that lists the fault sheet, and the bytes of what it lists: one turn, its end, and one record more.
use Rattle.std.specs.Prelude.{◌≡◌, refl, Bool, false, not, cond, ℕ, zero, suc, ◌+◌, ◌*◌, ◌-◌, ◌≤◌, ◌<◌, T, eqb, length, get_or, drop}
use Rattle.std.proofs.Common.{sym, ap, ap₂, subst, ◌∙◌, arith, length-append, drop-cons, ne_eqb}
use mathlib.Core.List.Memᴰ
use mathlib.Core.List.{List, [], ◌∷◌, ◌++◌, append_assoc, Memᴰ}
use Rattle.std.proofs.lemmas.List.{drop-append-le}
use Rattle.std.proofs.Math.Seq.{drop-length}
use Rattle.files.specs.Basics.Lists.{each_append, each, index_e}
use Rattle.files.specs.Basics.Queue.{Once, room, fresh, walk}
use Rattle.files.specs.Basics.Tests.{any, grid, grid_i, length_grid}
use Rattle.files.specs.Cells.{put_at, has_bit}
use Rattle.files.specs.Cells.Laws.{put_at_is, put_front, put_after}
use Rattle.files.specs.Graph.{Graph, size, Flow}
use Rattle.files.specs.Places.{record_len, max_nodes, max_rows}
use Rattle.files.specs.Property.{Row, Property}
use Rattle.judging.specs.Levels.{satisfies}
use Rattle.judging.specs.Levels.Sheet.{same_pair, no_cause, causes, failing, pairs, fault, fault_bytes, sheet_bytes}
use Rattle.judging.specs.Levels.Sheet.Causes.{Few, no_one, one_only, two_only, IsPair}
use Rattle.judging.specs.Levels.Sheet.Laws.{pairs_some, sheet_bytes_are}
use Rattle.judging.specs.Places.{marks_base, max_pairs}
use Rattle.judging.specs.Ranking.{queue_at, pair}
use Rattle.judging.specs.Sheets.{Settled, Listed, listed, pair_of}
use Rattle.judging.specs.Sheets.Queue.{listed_none, listed_more, length_listed, listed_at, fresh_two, append_nothing}

-- ---- the causes of a pair, visited one after the other

-- what is listed after a cause of this node and row: row 255 is none
abbrev pub after_cause : List (ℕ × ℕ) → ℕ × ℕ → List (ℕ × ℕ)
after_cause seen x = seen ++ fresh same_pair seen (cond (eqb x.1 255) [] ((x.0, x.1) ∷ []))

pub two_visits : (seen cs : List (ℕ × ℕ)) → Few cs → ((y : ℕ × ℕ) → Memᴰ y cs → y.1 < 255)
    → after_cause (after_cause seen (get_or cs 0 no_cause)) (get_or cs 1 no_cause) ≡ seen ++ fresh same_pair seen cs
two_visits seen cs no_one f = sym (append_nothing (seen ++ []))
two_visits seen cs (one_only x) f =
    sym (append_nothing (after_cause seen x)) ∙ ap (λ (b : Bool). seen ++ fresh same_pair seen (cond b [] (x ∷ []))) (ne_eqb x.1 255 (λ e. omega (arith, f x (Memᴰ.head refl))))
two_visits seen cs (two_only x y) f =
    let a : eqb x.1 255 ≡ false = ne_eqb x.1 255 (λ e. omega (arith, f x (Memᴰ.head refl))) in
    let b : eqb y.1 255 ≡ false = ne_eqb y.1 255 (λ e. omega (arith, f y (Memᴰ.tail (Memᴰ.head refl)))) in
    let s : List (ℕ × ℕ) = seen ++ fresh same_pair seen (x ∷ []) in
    ap₂ (λ (c d : Bool). let t = seen ++ fresh same_pair seen (cond c [] (x ∷ [])) in t ++ fresh same_pair t (cond d [] (y ∷ []))) a b
    ∙ append_assoc seen (fresh same_pair seen (x ∷ [])) (fresh same_pair s (y ∷ []))
    ∙ ap (λ (l : List (ℕ × ℕ)). seen ++ l) (fresh_two seen x y)

-- ---- one turn of the walk

module _ (next : ℕ × ℕ → List (ℕ × ℕ)) where
  pub walk_turn : (k h : ℕ) (xs : List (ℕ × ℕ)) (d : ℕ × ℕ) → h < length xs
      → walk same_pair next (suc k) xs (drop h xs) ≡ walk same_pair next k (xs ++ fresh same_pair xs (next (get_or xs h d))) (drop (suc h) (xs ++ fresh same_pair xs (next (get_or xs h d))))
  walk_turn k h xs d l =
      ap (walk same_pair next (suc k) xs) (drop-cons xs h d l)
      ∙ ap (walk same_pair next k (xs ++ fresh same_pair xs (next (get_or xs h d)))) (sym (drop-append-le (suc h) xs (fresh same_pair xs (next (get_or xs h d))) l))

  pub walk_end : (k : ℕ) (xs : List (ℕ × ℕ)) → walk same_pair next k xs (drop (length xs) xs) ≡ xs
  walk_end k xs = ap (walk same_pair next k xs) (drop-length xs) ∙ go k
    where
      go : (k : ℕ) → walk same_pair next k xs [] ≡ xs
      go zero = refl
      go (suc k) = refl

module _ (G : Graph) (P : List Row) where
  -- as many are listed as there are pairs, at most
  pub listed_fits : (n : ℕ) (w : List ℕ) → Listed G P n w → n ≤ size G * length P
  listed_fits n w x =
      let a = room (listed w n) (grid (size G) (length P)) x.once (λ y m. let b = x.inside y m in grid_i (size G) (length P) y.0 y.1 b.0 b.1) in
      omega (arith, a, length_grid (size G) (length P), length_listed w n)

  -- before the walk nothing is listed
  pub listed_start : (w : List ℕ) → Settled G P w → size G ≤ max_nodes → length P ≤ max_rows → ((p : ℕ) → p < max_pairs → has_bit w marks_base p ≡ false) → Listed G P 0 w
  listed_start w s fn fr z = record {
    settled = s;
    marks = λ g r hg hr. z (pair g r) (omega arith) ∙ ap (any (same_pair (g, r))) (sym (listed_none w));
    once = subst Once (sym (listed_none w)) tt;
    inside = λ y m. absurd (Memᴰ.not-nil (subst (Memᴰ y) (listed_none w) m));
  }

  -- the pair at a place of the list is a pair
  pub listed_pair : (n : ℕ) (w : List ℕ) → Listed G P n w → (i : ℕ) → i < n → IsPair G P (pair_of (queue_at w i))
  listed_pair n w x i h = subst (IsPair G P) (listed_at w n i (0, 0) h) (x.inside (get_or (listed w n) i (0, 0)) (index_e (0, 0) (listed w n) i (omega (arith, length_listed w n))))

  -- what is still to walk gives the whole sheet
  abbrev pub Onward : ℕ → ℕ → List ℕ → Type 0
  Onward head tail w = walk same_pair (causes G P) (size G * length P - head) (listed w tail) (drop head (listed w tail)) ≡ pairs G P

  pub walk_first : (tail : ℕ) (w : List ℕ) → T (not (satisfies G P)) → Flow G → Property P → listed w tail ≡ (failing G P, 0) ∷ [] → Onward 0 tail w
  walk_first tail w bad flow wf e =
      let z : size G * length P - 0 ≡ size G * length P = omega arith in
      ap₂ (λ (k : ℕ) (xs : List (ℕ × ℕ)). walk same_pair (causes G P) k xs (drop 0 xs)) z e ∙ pairs_some G P flow wf bad

  pub walk_on : (head tail tail' : ℕ) (w w' : List ℕ) → Listed G P tail w → head < tail → Onward head tail w
      → listed w' tail' ≡ listed w tail ++ fresh same_pair (listed w tail) (causes G P (pair_of (queue_at w head))) → Onward (head + 1) tail' w'
  walk_on head tail tail' w w' x h o e =
      let l : size G * length P - head ≡ suc (size G * length P - (head + 1)) = omega (arith, listed_fits tail w x) in
      let m : head + 1 ≡ suc head = omega arith in
      let at : get_or (listed w tail) head (0, 0) ≡ pair_of (queue_at w head) = listed_at w tail head (0, 0) h in
      ap₂ (λ (i : ℕ) (xs : List (ℕ × ℕ)). walk same_pair (causes G P) (size G * length P - (head + 1)) xs (drop i xs)) m
      (e ∙ ap (λ (y : ℕ × ℕ). listed w tail ++ fresh same_pair (listed w tail) (causes G P y)) (sym at))
      ∙ sym (walk_turn (causes G P) (size G * length P - (head + 1)) head (listed w tail) (0, 0) (omega (arith, length_listed w tail)))
      ∙ ap (λ (k : ℕ). walk same_pair (causes G P) k (listed w tail) (drop head (listed w tail))) (sym l)
      ∙ o

  pub walk_all : (head tail : ℕ) (w : List ℕ) → head ≡ tail → Onward head tail w → listed w tail ≡ pairs G P
  walk_all head tail w e o =
      sym (walk_end (causes G P) (size G * length P - head) (listed w tail))
      ∙ ap (λ (i : ℕ). walk same_pair (causes G P) (size G * length P - head) (listed w tail) (drop i (listed w tail))) (length_listed w tail ∙ sym e)
      ∙ o

-- ---- the bytes of what is listed

-- a run stored after a run
pub put_next : (l xs ys : List ℕ) → put_at (put_at l 0 xs) (length xs) ys ≡ put_at l 0 (xs ++ ys)
put_next l xs ys = let z : length xs ≡ 0 + length xs = omega arith in ap (λ (k : ℕ). put_at (put_at l 0 xs) k ys) z ∙ put_after l 0 xs ys (omega arith)

module _ (G : Graph) (P : List Row) (w : List ℕ) where
  -- the bytes of the first n pairs
  abbrev pub bytes_of : ℕ → List ℕ
  bytes_of n = each (λ (x : ℕ × ℕ). fault_bytes (fault G P x)) (listed w n)

  pub bytes_length : (n : ℕ) → length (bytes_of n) ≡ record_len * n
  bytes_length n = go (listed w n) ∙ ap (λ (k : ℕ). record_len * k) (length_listed w n)
    where
      go : (xs : List (ℕ × ℕ)) → length (each (λ (x : ℕ × ℕ). fault_bytes (fault G P x)) xs) ≡ record_len * length xs
      go [] = refl
      go (x ∷ xs) = omega (arith, length-append (fault_bytes (fault G P x)) (each (λ (y : ℕ × ℕ). fault_bytes (fault G P y)) xs), go xs)

  -- one record more
  pub bytes_more : (out : List ℕ) (n : ℕ) → put_at (put_at out 0 (bytes_of n)) (record_len * n) (fault_bytes (fault G P (pair_of (queue_at w n)))) ≡ put_at out 0 (bytes_of (suc n))
  bytes_more out n =
      let b : List ℕ = fault_bytes (fault G P (pair_of (queue_at w n))) in
      let e : bytes_of n ++ b ≡ bytes_of (suc n) =
      sym (ap (each (λ (x : ℕ × ℕ). fault_bytes (fault G P x))) (listed_more w n) ∙ each_append (λ (x : ℕ × ℕ). fault_bytes (fault G P x)) (listed w n) (pair_of (queue_at w n) ∷ [])) in
      ap (λ (k : ℕ). put_at (put_at out 0 (bytes_of n)) k b) (sym (bytes_length n)) ∙ put_next out (bytes_of n) b ∙ ap (put_at out 0) e

  pub bytes_none : (out : List ℕ) → out ≡ put_at out 0 (bytes_of 0)
  bytes_none out = sym (ap (λ (xs : List (ℕ × ℕ)). put_at out 0 (each (λ (x : ℕ × ℕ). fault_bytes (fault G P x)) xs)) (listed_none w) ∙ put_at_is out 0 [])

  -- all records are the sheet's bytes
  pub bytes_all : (out : List ℕ) (n : ℕ) → listed w n ≡ pairs G P → put_at out 0 (bytes_of n) ≡ sheet_bytes G P ++ drop (length (sheet_bytes G P)) out
  bytes_all out n e =
      let b : bytes_of n ≡ sheet_bytes G P = ap (each (λ (x : ℕ × ℕ). fault_bytes (fault G P x))) e ∙ sym (sheet_bytes_are G P) in
      ap (put_at out 0) b ∙ put_front out (sheet_bytes G P)
