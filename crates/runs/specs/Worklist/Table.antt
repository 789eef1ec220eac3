-- The table of summaries: at the start, with another summary in it, and what a summary becomes by the states at a point.
use Rattle.std.specs.Prelude.{◌≡◌, refl, Bool, List, [], ℕ, ◌-◌, ◌≤◌, ◌<◌, eqb, length, get_or, set, replicate}
use Rattle.std.proofs.Common.{sym, ap, ap₂, subst, ◌∙◌, arith, eqb→eq, length-set, get_or-set_same, get_or-set_other, eq-eqb, ne_eqb}
use Rattle.std.proofs.Math.Bool.{true, false, not, cond}
use Rattle.std.proofs.Math.Decide.{ℕ_discrete}
use Rattle.std.specs.Int.Bits.{bit_or, or_add_and}
use Rattle.std.proofs.lemmas.Nat.{and_le_r}
use Rattle.std.proofs.Math.Dec.{T}
use Rattle.std.proofs.lemmas.List.{get_or-replicate}
use Rattle.runs.specs.Worklist.{sums, put_sum, no_sums, Shaped, joined}

pub none_summed : (m p : ℕ) → 1 ≤ m → m ≤ 8 → p < 8 → sums no_sums m p ≡ 0
none_summed m p h l hp =
    ap (λ (row : List ℕ). get_or row p 0) (get_or-replicate {A = List ℕ} 8 (m - 1) (replicate 8 0) [] (omega arith)) ∙ get_or-replicate {A = ℕ} 8 p 0 0 hp

pub shaped_none : Shaped no_sums
shaped_none = record {
  rows = refl;
  row_long = λ m h. ap (length {A = ℕ}) (get_or-replicate {A = List ℕ} 8 m (replicate 8 0) [] h);
  sum_small = λ m p h l hp. omega (arith, none_summed m p h l hp);
}

module _ (t : List (List ℕ)) (shape : Shaped t) (m p v : ℕ) (is_method : 1 ≤ m) (in_methods : m ≤ 8) (hp : p < 8) where
  abbrev row : List ℕ
  row = get_or t (m - 1) []

  row_here : get_or (put_sum t m p v) (m - 1) [] ≡ set row p v
  row_here = get_or-set_same t (m - 1) (set row p v) [] (omega (arith, shape.rows))

  pub sum_here : sums (put_sum t m p v) m p ≡ v
  sum_here = ap (λ (l : List ℕ). get_or l p 0) row_here ∙ get_or-set_same row p v 0 (omega (arith, shape.row_long (m - 1) (omega arith)))

  -- every other summary is the same
  pub sum_other : (l r : ℕ) → 1 ≤ l → l ≤ 8 → r < 8 → ((l ≡ m) × (r ≡ p) → ⊥) → sums (put_sum t m p v) l r ≡ sums t l r
  sum_other l r hl kl hr n = go (ℕ_discrete (l - 1) (m - 1))
    where
      go : Dec (l - 1 ≡ m - 1) → sums (put_sum t m p v) l r ≡ sums t l r
      go (no d) = ap (λ (k : List ℕ). get_or k r 0) (get_or-set_other t (m - 1) (l - 1) (set row p v) [] d)
      go (yes d) =
          let e : l ≡ m = omega (arith, d) in
          ap (λ (i : ℕ). get_or (get_or (put_sum t m p v) i []) r 0) d ∙ ap (λ (k : List ℕ). get_or k r 0) row_here
          ∙ get_or-set_other row p r v 0 (λ q. n (e, q)) ∙ ap (λ (i : ℕ). get_or (get_or t i []) r 0) (sym d)

  pub shaped_put : v < 256 → Shaped (put_sum t m p v)
  shaped_put small = record {
    rows = length-set t (m - 1) (set row p v) ∙ shape.rows;
    row_long = λ l h. long l h (ℕ_discrete l (m - 1));
    sum_small = λ l r hl kl hr. fits l r hl kl hr (ℕ_discrete l m) (ℕ_discrete r p);
  }
    where
      long : (l : ℕ) → l < 8 → Dec (l ≡ m - 1) → length (get_or (put_sum t m p v) l []) ≡ 8
      long l h (yes d) =
          subst (λ (i : ℕ). length (get_or (put_sum t m p v) i []) ≡ 8) (sym d) (ap (length {A = ℕ}) row_here ∙ length-set row p v ∙ shape.row_long (m - 1) (omega arith))
      long l h (no d) = ap (length {A = ℕ}) (get_or-set_other t (m - 1) l (set row p v) [] d) ∙ shape.row_long l h

      fits : (l r : ℕ) → 1 ≤ l → l ≤ 8 → r < 8 → Dec (l ≡ m) → Dec (r ≡ p) → sums (put_sum t m p v) l r < 256
      fits l r hl kl hr (yes d) (yes e) =
          subst (λ (i : ℕ). sums (put_sum t m p v) i r < 256) (sym d) (subst (λ (i : ℕ). sums (put_sum t m p v) m i < 256) (sym e) (subst (λ (k : ℕ). k < 256) (sym sum_here) small))
      fits l r hl kl hr (no d) e = subst (λ (k : ℕ). k < 256) (sym (sum_other l r hl kl hr (λ q. d q.0))) (shape.sum_small l r hl kl hr)
      fits l r hl kl hr (yes d) (no e) = subst (λ (k : ℕ). k < 256) (sym (sum_other l r hl kl hr (λ q. e q.1))) (shape.sum_small l r hl kl hr)

-- ---- what a summary becomes

pub joined_some : (b : Bool) (old x new : ℕ) → new ≡ joined b old x → 0 < new → (b ≡ true) × (new ≡ bit_or old x)
unfolding joined
joined_some false old x new e h = absurd (omega (arith, e, h))
joined_some true old x new e h = go (eqb (bit_or old x) old) e
  where
    go : (c : Bool) → new ≡ cond c 0 (bit_or old x) → (true ≡ true) × (new ≡ bit_or old x)
    go true d = absurd (omega (arith, d, h))
    go false d = (refl, d)

-- a summary that stays lacks none of the states
pub joined_none : (b : Bool) (old x new : ℕ) → new ≡ joined b old x → new ≡ 0 → b ≡ true → bit_or old x ≡ old
unfolding joined
joined_none false old x new e z t = absurd (subst T (sym t) tt)
joined_none true old x new e z t = go (eqb (bit_or old x) old) refl e
  where
    go : (c : Bool) → eqb (bit_or old x) old ≡ c → new ≡ cond c 0 (bit_or old x) → bit_or old x ≡ old
    go true d k = eqb→eq (bit_or old x) old (subst T (sym d) tt)
    go false d k = omega (arith, k, z, or_add_and old x, and_le_r old x)

-- ---- as the code finds it: no return node, or no state is new, or one is

pub joined_off : (b : Bool) (old x : ℕ) → not b ≡ true → 0 ≡ joined b old x
unfolding joined
joined_off true old x e = absurd (subst T (sym e) tt)
joined_off false old x e = refl

module _ (b : Bool) (old x : ℕ) (on : not b ≡ false) (o y : ℕ) (o_is : o ≡ old) (y_is : y ≡ x) where
  both_is : bit_or o y ≡ bit_or old x
  both_is = ap₂ bit_or o_is y_is

  returning : (z : ℕ) → z ≡ cond (eqb (bit_or old x) old) 0 (bit_or old x) → z ≡ joined b old x
  unfolding joined
  returning z e = go b on
    where
      go : (c : Bool) → not c ≡ false → z ≡ cond c (cond (eqb (bit_or old x) old) 0 (bit_or old x)) 0
      go true d = e
      go false d = absurd (subst T d tt)

  pub joined_same : bit_or o y ≡ o → 0 ≡ joined b old x
  joined_same e = returning 0 (sym (ap (λ (c : Bool). cond c 0 (bit_or old x)) (eq-eqb (bit_or old x) old (sym both_is ∙ e ∙ o_is))))

  pub joined_new : (bit_or o y ≡ o → ⊥) → bit_or o y ≡ joined b old x
  joined_new n = returning (bit_or o y) (both_is ∙ sym (ap (λ (c : Bool). cond c 0 (bit_or old x)) (ne_eqb (bit_or old x) old (λ e. n (both_is ∙ e ∙ sym o_is)))))
