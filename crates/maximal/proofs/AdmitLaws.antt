-- For the code that enters the supports of a set of rows: the candidates found, and then entered one after the other, and what stays.
use mathlib.Core.Path.{◌≡◌, refl, sym, ap, subst, ◌∙◌}
use mathlib.Core.Logic.{◌⊎◌, inl, inr}
use mathlib.Core.List.Memᴰ
use mathlib.Core.List.{List, [], ◌∷◌, ◌++◌, Memᴰ}
use Prim.Native.Nat.{ℕ, ◌+◌, ◌*◌, ◌/◌, ◌≤◌, ◌<◌}
use native.Mathlib.Nat.{zero-add}
use native.Mathlib.Numerals.{add-one}
use native.Mathlib.Omega.{arith}
use Rattle.files.specs.Basics.Lists.{span_i}
use Rattle.files.specs.Cells.{cell}
use Rattle.files.specs.Cells.Laws.{cell_agree, bit_byte}
use Rattle.files.specs.Decode.{decode_property}
use Rattle.files.specs.Interface.{Interface}
use Rattle.files.specs.Property.{Row}
use Rattle.judging.specs.Chains.{Outside}
use Rattle.judging.specs.Sheets.Queue.{table_more}
use Rattle.maximal.specs.Places.{candidates_base, entries_slot, model_room, order_base, targets_base, kinds_base, max_states, sets_base}
use Rattle.maximal.specs.declared.places.Scope.{Scope}
use Rattle.maximal.specs.Charting.{Scoped, kind_at, set_at, Known, Holds, Admitted}
use Rattle.maximal.specs.Charting.Files.{rows_fit}
use Rattle.maximal.specs.Charting.Kept.{tables_same, holds_same}
use Rattle.maximal.specs.Charting.Entering.{admitted_unmarked, admitted_none, admitted_both}
use Rattle.maximal.specs.Collected.{listed, Tables}
use Rattle.maximal.proofs.StateLaws.{Entered}

-- ---- all candidates, one after the other

-- the first k candidates of w₀ are entered
pub record Entering (s : Scope) (I : Interface) (P : List Row) (c kind q : ℕ) (w₀ : List ℕ) (k total : ℕ) (w : List ℕ) : Type 0 where
  pub fits : total ≤ s.states
  pub admitted : Admitted I P c total kind (listed w₀ k) q w₀ w
  pub outside : Outside kinds_base candidates_base w₀ w

module _ (s : Scope) (I : Interface) (P : List Row) (c kind q : ℕ) (w₀ : List ℕ) where
  pub entering_none : c ≤ s.states → q ≤ entries_slot → Holds I P c w₀ → Entering s I P c kind q w₀ 0 c w₀
  entering_none l hq h = record { fits = l; admitted = admitted_none I P c kind q w₀ h hq; outside = λ b d. refl }

  module _ (k total : ℕ) (w : List ℕ) (e : Entering s I P c kind q w₀ k total w) (x : ℕ) (is : x ≡ cell w candidates_base 4 k) where
    -- the candidates stand behind what is written
    candidate : x ≡ cell w₀ candidates_base 4 k
    candidate = is ∙ cell_agree w w₀ candidates_base 4 k (λ b l m. e.outside b (inr (omega arith)))

    pub candidate_known : (n : ℕ) → k < n → ((u : ℕ) → Memᴰ u (listed w₀ n) → Known I P kind u) → Known I P kind x
    candidate_known n l f = f x (Memᴰ.cast candidate (Memᴰ.map (λ (i : ℕ). cell w₀ candidates_base 4 i) (span_i n 0 k (omega arith) (omega arith))))

    pub entering_on : (t : ℕ) (w' : List ℕ) → t ≤ s.states → Entered s I P total t kind (x ∷ []) q w w' → Entering s I P c kind q w₀ (k + 1) t w'
    entering_on t w' l y = record {
      fits = l;
      admitted = subst (λ (A : List ℕ). Admitted I P c t kind A q w₀ w') (sym one_more) (admitted_both I P c total t kind (listed w₀ k) (x ∷ []) q w₀ w w' e.admitted (y.0 l).0);
      outside = λ b d. (y.0 l).1 b d ∙ e.outside b d;
    }
      where
        one_more : listed w₀ (k + 1) ≡ listed w₀ k ++ x ∷ []
        one_more =
            ap (listed w₀) (add-one k) ∙ table_more (λ (i : ℕ). cell w₀ candidates_base 4 i) 0 k
            ∙ ap (λ (u : ℕ). listed w₀ k ++ u ∷ []) (ap (λ (i : ℕ). cell w₀ candidates_base 4 i) (zero-add k) ∙ sym candidate)

-- ---- the candidates found, and then entered

module _ (I : Interface) (P : List Row) (c kind q : ℕ) (hq : q ≤ entries_slot) (w w₁ : List ℕ) (h : Holds I P c w) (o : Outside candidates_base model_room w w₁) where
  -- the candidates stand behind all else
  only_listed : Admitted I P c c kind [] q w w₁
  only_listed = admitted_unmarked I P c c kind q w w₁ (holds_same I P c w w₁ kinds sets h) (omega arith) kinds sets hq
      (λ p t l m. bit_byte w₁ w targets_base targets_base (max_states * p + t) (o (targets_base + (max_states * p + t) / 8) (inl (omega arith)))) (λ b d. o b (inl (before b d)))
    where
      kinds : (i : ℕ) → i < c → kind_at w₁ i ≡ kind_at w i
      kinds i l = cell_agree w₁ w kinds_base 1 i (λ b m n. o b (inl (omega (arith, h.few))))

      sets : (i : ℕ) → i < c → set_at w₁ i ≡ set_at w i
      sets i l = cell_agree w₁ w sets_base 4 i (λ b m n. o b (inl (omega (arith, h.few))))

      before : (b : ℕ) → (b < kinds_base) ⊎ ((order_base ≤ b) × (b < targets_base)) → b < candidates_base
      before b (inl l) = omega arith
      before b (inr l) = omega (arith, l.1)

  pub listed_holds : Holds I P c w₁
  listed_holds = only_listed.holds

  pub listed_admitted : (n : ℕ) (A : List ℕ) → listed w₁ n ≡ A → (t : ℕ) (w₂ : List ℕ) → Admitted I P c t kind (listed w₁ n) q w₁ w₂ → Admitted I P c t kind A q w w₂
  listed_admitted n A e t w₂ x = subst (λ (B : List ℕ). Admitted I P c t kind B q w w₂) e (admitted_both I P c c t kind [] (listed w₁ n) q w w₁ w₂ only_listed x)

-- the tables stand elsewhere
pub tables_admitted : (s : Scope) (I : Interface) (p : List ℕ) → Scoped s p → (c t kind q : ℕ) (A w w' : List ℕ) → Admitted I (decode_property p) c t kind A q w w' → Tables (decode_property p) w → Tables (decode_property p) w'
tables_admitted s I p scoped c t kind q A w w' x = tables_same (decode_property p) w w' (rows_fit s p scoped) (λ b l. x.elsewhere b (inl l))
