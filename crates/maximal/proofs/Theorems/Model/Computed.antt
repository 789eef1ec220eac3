-- The theorems of specs/Model/Computed that rest on a definition which a must-fail edit turns: there they could not be read under the edit.
-- Computed: The computed tests say what the predicates say, and the computed graph is the model.
use Rattle.std.specs.Prelude.{◌≡◌, ◌⊎◌, ◌↔◌, ℕ, ◌<◌, eqb}
use Rattle.std.proofs.Math.Path.{refl}
use Rattle.std.proofs.Common.{arith}
use Rattle.std.proofs.Math.Logic.{inl, inr}
use mathlib.Core.List.{List, Memᴰ}
use Rattle.std.proofs.Math.Dec.{T, eqb→eq}
use Rattle.std.proofs.Math.ListN.{length}
use Rattle.files.specs.Basics.Closure.{closed, closed_ind, closed_rule}
use Rattle.files.specs.Basics.Lists.{span, span_i, index_i, index_e}
use Rattle.files.specs.Basics.Tests.{and_l, and_r, and_i, or_e, or_l, or_r, any, any_i, any_e, eq_eqb}
use Rattle.maximal.specs.Model.{Reached, asked, State, Next, at_entry, at_next, IsModel, is_entry, is_label, is_next, all_states, arises, states, state_at, no_state, model}
use Rattle.files.specs.Interface.{Interface}
use Rattle.files.specs.Property.{Row, Property}
use Rattle.maximal.specs.Model.Maximal.{reached_rows}
use Rattle.maximal.proofs.Theorems.Model.Maximal.{reached_provided}
use Rattle.maximal.specs.Model.Computed.{all_e', all_i', arises_mono, asked_row, entry_e, entry_i, label_e, label_i, linked, minimal_e, minimal_i, model_edge_e, model_edge_i, model_node, model_size}

module _ (I : Interface) (P : List Row) (wf : Property P) where
  pub next_e : (s : State) (l : ℕ) (t : State) → length t.rows ≡ length P → T (is_next I P s l t) → Next I P s l t
  unfolding is_next
  next_e s l t e x =
      let y = and_r (is_label I P l) _ x in
      record {
        label = (label_e I P wf) l (and_l (is_label I P l) _ x);
        same_method = eqb→eq _ _ (and_l (eqb t.method s.method) _ y);
        minimal = minimal_e P _ _ (asked P s.rows l) ((asked_row I P wf) s.rows l) t.rows e (and_r (eqb t.method s.method) _ y);
      }

  pub next_i : (s : State) (l : ℕ) (t : State) → Next I P s l t → T (is_next I P s l t)
  unfolding is_next
  next_i s l t x =
      and_i (is_label I P l) _ ((label_i I P wf) l x.label).0 (and_i (eqb t.method s.method) _ (eq_eqb _ _ x.same_method)
      (minimal_i P _ _ (asked P s.rows l) ((asked_row I P wf) s.rows l) t.rows x.minimal))

  arises_reached : (ys : List State) → ((y : State) → Memᴰ y ys → Reached I P y) → (t : State) → Memᴰ t (all_states I P) → T (arises I P ys t) → Reached I P t
  unfolding arises
  arises_reached ys f t m x = go ((all_e' I P wf) t m).1 (or_e (is_entry I P t) _ x)
    where
      go : length t.rows ≡ length P → T (is_entry I P t) ⊎ T (any ((linked I P wf) t) ys) → Reached I P t
      go e (inl y) = at_entry ((entry_e I P wf) t e y)
      go e (inr y) =
          let b = any_e ((linked I P wf) t) ys y in
          let c = any_e (λ (l : ℕ). is_next I P b.0 l t) (span 0 9) b.2 in
          at_next (f b.0 b.1) (next_e b.0 c.0 t e c.2)

  reached_all : (t : State) → Reached I P t → Memᴰ t (all_states I P)
  reached_all t c = (all_i' I P wf) t (reached_provided I P t c) (reached_rows I P t c)

  reached_closed : (t : State) → Reached I P t → Memᴰ t (closed (all_states I P) (arises I P))
  unfolding arises
  reached_closed t (at_entry e) =
      closed_rule (all_states I P) (arises I P) (arises_mono I P wf) t (reached_all t (at_entry e)) (or_l (is_entry I P t) _ ((entry_i I P wf) t e))
  reached_closed t (at_next {s = s} {l = l} c n) =
      closed_rule (all_states I P) (arises I P) (arises_mono I P wf) t (reached_all t (at_next c n)) (or_r (is_entry I P t) _
      (any_i ((linked I P wf) t) (closed (all_states I P) (arises I P)) s (reached_closed s c)
      (any_i (λ (l : ℕ). is_next I P s l t) (span 0 9) l (span_i 9 0 l (omega arith) (omega (arith, ((label_i I P wf) l n.label).1))) (next_i s l t n))))

  pub states_are : (t : State) → Memᴰ t (states I P) ↔ Reached I P t
  unfolding states
  states_are t = (closed_ind (all_states I P) (arises I P) (Reached I P) arises_reached t, reached_closed t)

  state_reached : (i : ℕ) → i < length (states I P) → Reached I P (state_at I P i)
  unfolding state_at
  state_reached i h = (states_are (state_at I P i)).0 (index_e no_state (states I P) i h)

  state_present : (s : State) → Reached I P s → (i : ℕ) × (i < length (states I P)) × (state_at I P i ≡ s)
  unfolding state_at
  state_present s c = index_i no_state (states I P) s ((states_are s).1 c)

  -- the computed graph is the model
  pub is_model : IsModel I P (state_at I P) (model I P)
  is_model = record {
    reached = λ i h. state_reached i (rw (model_size I P wf) at h);
    present = λ s c. let a = state_present s c in (a.0, rw (model_size I P wf) a.1, a.2);
    method_is = λ i h. rw ((model_node I P wf) i (rw (model_size I P wf) at h)) refl;
    ret_is = λ i h. rw ((model_node I P wf) i (rw (model_size I P wf) at h)) refl;
    entry_is = λ i h.
        let k = rw (model_size I P wf) at h in
        let e = reached_rows I P (state_at I P i) (state_reached i k) in
        rw ((model_node I P wf) i k) ((entry_e I P wf) (state_at I P i) e, (entry_i I P wf) (state_at I P i));
    edge_inside = λ e m. let a = (model_edge_e I P wf) e m in (rw (model_size I P wf) a.0, rw (model_size I P wf) a.1);
    edge_next = λ e m.
        let a = (model_edge_e I P wf) e m in
        next_e _ _ _ (reached_rows I P (state_at I P e.to) (state_reached e.to a.1)) a.2;
    next_edge = λ i l j hi hj n.
        (model_edge_i I P wf) i l j (rw (model_size I P wf) at hi) (rw (model_size I P wf) at hj) ((label_i I P wf) l n.label).1 (next_i _ l _ n);
  }
