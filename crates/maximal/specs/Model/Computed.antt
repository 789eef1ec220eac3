-- The computed tests say what the predicates say, and the computed graph is the model.
-- Its theorems that rest on a definition which a must-fail edit turns stand in proofs/Theorems/Model/Computed.
use Rattle.std.specs.Prelude.{◌≡◌, ◌⊎◌, Bool, false, not, ◌&&◌, ◌||◌, ℕ, ◌<◌, eqb, get_or}
use Rattle.std.proofs.Math.Path.{refl, ap, subst}
use Rattle.std.proofs.Common.{sym, arith}
use Rattle.std.proofs.Math.Logic.{inl, inr}
use Rattle.std.proofs.Math.Bool.{true}
use mathlib.Core.List.Memᴰ
use mathlib.Core.List.{List, [], ◌∷◌, map, Memᴰ}
use Rattle.std.proofs.Math.Dec.{T, eqb→eq, T_not, not_T}
use Rattle.std.proofs.Math.ListN.{length, length-map}
use Rattle.files.specs.Basics.Lists.{keep, keep_i, keep_e, each, each_i, each_e, span, span_i, span_e, get_d_map}
use Rattle.files.specs.Basics.Tests.{imp_i, imp_e, and_l, and_r, and_i, or_e, or_l, or_r, all_i, all_e, any, any_i, any_e, upto, upto_i, decide, eq_eqb}
use Rattle.maximal.specs.Model.{below, Rows, has, Within, supported, Support, Minimal, root, asked, State, Entry, sets, is_support, is_minimal, is_entry, is_label, is_next, all_states, arises, states, state_at, no_state, edges_between, graph_of, model}
use Rattle.files.specs.Graph.{Edge, size, node}
use Rattle.files.specs.Interface.{Interface, provides, requires_method, Labelled}
use Rattle.files.specs.Interface.Laws.{in_set_small}
use Rattle.files.specs.Property.{Row, row, Property}
use Rattle.judging.specs.Levels.Laws.{obliged_named}
use Rattle.maximal.specs.Model.Supports.{asked_e, sets_i, sets_e, has_lt}

-- ---- minimal supports by test

module _ (P : List Row) (m : ℕ) (f : Bool) (O : ℕ → Bool) (rows : (r : ℕ) → T (O r) → r < length P) where
  below_e : (v w : ℕ → Bool) → T (below P v w) → (r : ℕ) → r < length P → T (v r) → T (w r)
  below_e v w t r h = imp_e (v r) (w r) (all_e _ (upto (length P)) t r (upto_i (length P) r h))

  below_i : (v w : ℕ → Bool) → ((r : ℕ) → T (v r) → T (w r)) → T (below P v w)
  below_i v w g = all_i _ (upto (length P)) (λ r k. imp_i (v r) (w r) (g r))

  support_e : (S : Rows) → length S ≡ length P → T (is_support P m f O S) → Support P m f O S
  unfolding is_support
  support_e S e t = record {
    of_rows = e;
    is_supported = and_l (supported P m f S) _ t;
    contains = λ r o. below_e O (has S) (and_r (supported P m f S) _ t) r (rows r o) o;
  }

  support_i : (S : Rows) → Support P m f O S → T (is_support P m f O S)
  unfolding is_support
  support_i S s = and_i (supported P m f S) _ s.is_supported (below_i O (has S) s.contains)

  within : (S U : Rows) → length S ≡ length P → T (below P (has S) (has U)) → Within S U
  within S U e t r k = below_e (has S) (has U) t r (subst (λ (n : ℕ). r < n) e (has_lt S r k)) k

  abbrev proper : Rows → Rows → Bool
  proper S U = is_support P m f O U && (below P (has U) (has S) && not (below P (has S) (has U)))

  pub minimal_e : (S : Rows) → length S ≡ length P → T (is_minimal P m f O S) → Minimal P m f O S
  unfolding is_minimal
  minimal_e S e t = record { support = support_e S e (and_l (is_support P m f O S) _ t); least = λ U s w. go U s w (decide (below P (has S) (has U))) }
    where
      go : (U : Rows) → Support P m f O U → Within U S → T (below P (has S) (has U)) ⊎ T (not (below P (has S) (has U))) → Within S U
      go U s w (inl b) = within S U e b
      go U s w (inr b) =
          absurd (T_not (any (proper S) (sets (length P))) (and_r (is_support P m f O S) _ t) (any_i (proper S) (sets (length P)) U
          (sets_i (length P) U s.of_rows) (and_i (is_support P m f O U) _ (support_i U s) (and_i (below P (has U) (has S)) _ (below_i (has U) (has S) w) b))))

  pub minimal_i : (S : Rows) → Minimal P m f O S → T (is_minimal P m f O S)
  unfolding is_minimal
  minimal_i S s =
      and_i (is_support P m f O S) _ (support_i S s.support) (not_T (any (proper S) (sets (length P))) (λ t.
      let a = any_e (proper S) (sets (length P)) t in
      let U = a.0 in
      let e : length U ≡ length P = sets_e (length P) U a.1 in
      let b = and_r (is_support P m f O U) _ a.2 in
      let w = within U S e (and_l (below P (has U) (has S)) _ b) in
      T_not (below P (has S) (has U)) (and_r (below P (has U) (has S)) _ b)
      (below_i (has S) (has U) (s.least U (support_e U e (and_l (is_support P m f O U) _ a.2)) w))))

module _ (I : Interface) (P : List Row) (wf : Property P) where
  -- ---- the tests

  root_row : (r : ℕ) → T (root r) → r < length P
  root_row r t = subst (λ (i : ℕ). i < length P) (sym (eqb→eq r 0 t)) wf.has_root

  pub asked_row : (S : Rows) (l r : ℕ) → T (asked P S l r) → r < length P
  asked_row S l r t = let a = asked_e P S l r t in obliged_named (length P) (row P a.0) l r (wf.names_rows a.0 a.1) a.3

  pub entry_e : (s : State) → length s.rows ≡ length P → T (is_entry I P s) → Entry I P s
  unfolding is_entry
  entry_e s e t = record { provided = and_l (provides I s.method) _ t; minimal = minimal_e P _ _ root root_row s.rows e (and_r (provides I s.method) _ t) }

  pub entry_i : (s : State) → Entry I P s → T (is_entry I P s)
  unfolding is_entry
  entry_i s x = and_i (provides I s.method) _ x.provided (minimal_i P _ _ root root_row s.rows x.minimal)

  pub label_is : (l : ℕ) → is_label I P l ≡ (eqb l 0 || requires_method I l)
  unfolding is_label
  label_is l = refl

  pub label_e : (l : ℕ) → T (is_label I P l) → Labelled I l
  unfolding is_label
  label_e l t = go (or_e (eqb l 0) (requires_method I l) t)
    where
      go : T (eqb l 0) ⊎ T (requires_method I l) → (l ≡ 0) ⊎ T (requires_method I l)
      go (inl a) = inl (eqb→eq l 0 a)
      go (inr a) = inr a

  pub label_i : (l : ℕ) → Labelled I l → T (is_label I P l) × (l < 9)
  unfolding is_label
  label_i l (inl e) = (or_l (eqb l 0) (requires_method I l) (eq_eqb l 0 e), omega arith)
  label_i l (inr t) = (or_r (eqb l 0) (requires_method I l) t, (in_set_small I.required l t).1)

  -- ---- every state there could be

  abbrev made : ℕ → Bool → Rows → State
  made m f S = record { method = m; flag = f; rows = S }

  flag_in : (f : Bool) → Memᴰ f (false ∷ true ∷ [])
  flag_in false = Memᴰ.head refl
  flag_in true = Memᴰ.tail (Memᴰ.head refl)

  pub all_i' : (s : State) → T (provides I s.method) → length s.rows ≡ length P → Memᴰ s (all_states I P)
  unfolding all_states
  all_i' s t e =
      let b = in_set_small I.provided s.method t in
      each_i _ (keep (provides I) (span 1 8)) s.method s (keep_i (provides I) (span 1 8) s.method (span_i 8 1 s.method b.0 (omega arith)) t)
      (each_i (λ (f : Bool). map (made s.method f) (sets (length P))) (false ∷ true ∷ []) s.flag s (flag_in s.flag)
      (Memᴰ.map (made s.method s.flag) (sets_i (length P) s.rows e)))

  pub all_e' : (s : State) → Memᴰ s (all_states I P) → T (provides I s.method) × (length s.rows ≡ length P)
  unfolding all_states
  all_e' s m =
      let a = each_e _ (keep (provides I) (span 1 8)) s m in
      let b = each_e (λ (f : Bool). map (made a.0 f) (sets (length P))) (false ∷ true ∷ []) s a.2 in
      let c = Memᴰ.of_map (made a.0 b.0) (sets (length P)) b.2 in
      let p : a.0 ≡ s.method = ap (λ (x : State). x.method) c.2 in
      let q : c.0 ≡ s.rows = ap (λ (x : State). x.rows) c.2 in
      (subst (λ (x : ℕ). T (provides I x)) p (keep_e (provides I) (span 1 8) a.0 a.1).1, subst (λ (x : Rows). length x ≡ length P) q (sets_e (length P) c.0 c.1))

  -- ---- the states are those reached

  -- s has t for a successor, under some label
  abbrev pub linked : State → State → Bool
  linked t s = any (λ (l : ℕ). is_next I P s l t) (span 0 9)

  pub arises_mono : (ys zs : List State) → ((y : State) → Memᴰ y ys → Memᴰ y zs) → (t : State) → T (arises I P ys t) → T (arises I P zs t)
  unfolding arises
  arises_mono ys zs f t x = go (or_e (is_entry I P t) _ x)
    where
      go : T (is_entry I P t) ⊎ T (any (linked t) ys) → T (is_entry I P t || any (linked t) zs)
      go (inl y) = or_l (is_entry I P t) _ y
      go (inr y) = let b = any_e (linked t) ys y in or_r (is_entry I P t) _ (any_i (linked t) zs b.0 (f b.0 b.1) b.2)

  -- ---- the graph

  pub model_size : size (model I P) ≡ length (states I P)
  unfolding model graph_of
  model_size = length-map (states I P) _

  pub model_node : (i : ℕ) → i < length (states I P)
      → node (model I P) i ≡ record { method = (state_at I P i).method; ret = (state_at I P i).flag; entry = is_entry I P (state_at I P i) }
  unfolding model graph_of state_at
  model_node i h = get_d_map (λ (s : State). record { method = s.method; ret = s.flag; entry = is_entry I P s }) (states I P) i no_state _ h

  abbrev made_edge : ℕ → ℕ → ℕ → Edge
  made_edge i l j = record { from = i; label = l; to = j }

  -- the edges of a list of states
  abbrev targets : List State → ℕ → ℕ → List ℕ
  targets xs i l = keep (λ (j : ℕ). is_next I P (get_or xs i no_state) l (get_or xs j no_state)) (span 0 (length xs))

  edges_e : (xs : List State) (e : Edge) → Memᴰ e (edges_between I P xs)
      → (e.from < length xs) × (e.to < length xs) × T (is_next I P (get_or xs e.from no_state) e.label (get_or xs e.to no_state))
  unfolding edges_between
  edges_e xs e m =
      let a = each_e (λ (i : ℕ). each (λ (l : ℕ). map (made_edge i l) (targets xs i l)) (span 0 9)) (span 0 (length xs)) e m in
      let b = each_e (λ (l : ℕ). map (made_edge a.0 l) (targets xs a.0 l)) (span 0 9) e a.2 in
      let c = Memᴰ.of_map (made_edge a.0 b.0) (targets xs a.0 b.0) b.2 in
      let k = keep_e _ (span 0 (length xs)) c.0 c.1 in
      subst (λ (e : Edge). (e.from < length xs) × (e.to < length xs) × T (is_next I P (get_or xs e.from no_state) e.label (get_or xs e.to no_state))) c.2
      (omega (arith, span_e (length xs) 0 a.0 a.1), omega (arith, span_e (length xs) 0 c.0 k.0), k.1)

  edges_i : (xs : List State) (i l j : ℕ) → i < length xs → j < length xs → l < 9 → T (is_next I P (get_or xs i no_state) l (get_or xs j no_state))
      → Memᴰ (made_edge i l j) (edges_between I P xs)
  unfolding edges_between
  edges_i xs i l j hi hj hl t =
      each_i (λ (i : ℕ). each (λ (l : ℕ). map (made_edge i l) (targets xs i l)) (span 0 9)) (span 0 (length xs)) i (made_edge i l j) (span_i (length xs) 0 i (omega arith) (omega arith))
      (each_i (λ (l : ℕ). map (made_edge i l) (targets xs i l)) (span 0 9) l (made_edge i l j) (span_i 9 0 l (omega arith) (omega arith))
      (Memᴰ.map (made_edge i l) (keep_i _ (span 0 (length xs)) j (span_i (length xs) 0 j (omega arith) (omega arith)) t)))

  pub model_edge_e : (e : Edge) → Memᴰ e (model I P).edges
      → (e.from < length (states I P)) × (e.to < length (states I P)) × T (is_next I P (state_at I P e.from) e.label (state_at I P e.to))
  unfolding model graph_of state_at
  model_edge_e e m = edges_e (states I P) e m

  pub model_edge_i : (i l j : ℕ) → i < length (states I P) → j < length (states I P) → l < 9 → T (is_next I P (state_at I P i) l (state_at I P j))
      → Memᴰ (made_edge i l j) (model I P).edges
  unfolding model graph_of state_at
  model_edge_i i l j hi hj hl t = edges_i (states I P) i l j hi hj hl t
