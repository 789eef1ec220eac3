-- The theorems of specs/Model/Maximal that rest on a definition which a must-fail edit turns: there they could not be read under the edit.
-- Maximal: The theorem of the maximal model: it simulates a flow graph of the interface, of any size, exactly where the graph satisfies the property.
use Rattle.std.specs.Prelude.{◌≡◌, refl, ◌↔◌, ℕ, ◌<◌, T, length}
use Rattle.std.proofs.Common.{sym, ap, subst, ◌∙◌, eqb→eq}
use mathlib.Core.List.{List, Memᴰ}
use Rattle.files.specs.Graph.{Graph, Edge, node, Flow}
use Rattle.files.specs.Interface.{Interface, provides, Of}
use Rattle.files.specs.Property.{Row, Property}
use Rattle.judging.specs.Levels.{holds, satisfies}
use Rattle.judging.specs.Levels.Laws.{satisfies_iff}
use Rattle.maximal.specs.Model.{Reached, root, asked, State, Entry, Next, at_entry, at_next, IsModel}
use Rattle.judging.specs.Simulation.{Simulates}
use Rattle.judging.specs.Simulation.Laws.{simulates_refl}
use Rattle.maximal.specs.Model.Supports.{minimal_inside}
use Rattle.maximal.specs.Model.Maximal.{Rel, asked_holds, holding, holding_supports, place, simulated_satisfies, state_of}

pub reached_provided : (I : Interface) (P : List Row) (s : State) → Reached I P s → T (provides I s.method)
reached_provided I P s (at_entry e) = e.provided
reached_provided I P s (at_next c n) = subst (λ (m : ℕ). T (provides I m)) (sym n.same_method) (reached_provided I P _ c)

module _ (I : Interface) (P : List Row) (wf : Property P) (st : ℕ → State) (H : Graph) (model : IsModel I P st H)
    (G : Graph) (flow : Flow G) (of : Of I G) where
  rel_matched : (g h : ℕ) → (Rel I P wf st H model G flow of) g h → (e : Edge) → Memᴰ e G.edges → e.from ≡ g
      → (d : Edge) × Memᴰ d H.edges × (d.from ≡ h) × (d.label ≡ e.label) × (Rel I P wf st H model G flow of) e.to d.to
  rel_matched g h rel e m p =
      let O = asked P (st h).rows e.label in
      let c = minimal_inside P _ _ O ((holding I P wf st H model G flow of) e.to) ((holding_supports I P wf st H model G flow of) e.to (flow.to_node e m) O ((asked_holds I P wf st H model G flow of) g h rel e m p)) in
      let n : Next I P (st h) e.label ((state_of I P wf st H model G flow of) e.to c.0) = record {
        label = of.calls e m;
        same_method = flow.one_method e m ∙ ap (λ (i : ℕ). (node G i).method) p ∙ sym rel.method_ok ∙ model.method_is h rel.of_h;
        minimal = c.1;
      } in
      let q = (place I P wf st H model G flow of) e.to (flow.to_node e m) c.0 (at_next (model.reached h rel.of_h) n) c.2 in (
        record { from = h; label = e.label; to = q.0 },
        model.next_edge h e.label q.0 rel.of_h q.2.of_h (subst (λ (s : State). Next I P (st h) e.label s) (sym q.1) n),
        refl,
        refl,
        q.2,
      )

  pub model_simulates : T (satisfies G P) → Simulates G H
  model_simulates t = record {
    rel = (Rel I P wf st H model G flow of);
    simulation = record {
      of_first = λ g h r. r.of_g;
      of_second = λ g h r. r.of_h;
      same_method = λ g h r. r.method_ok;
      same_ret = λ g h r. r.ret_ok;
      matched = rel_matched;
    };
    covers = λ g hg s.
        let c = minimal_inside P _ _ root ((holding I P wf st H model G flow of) g) ((holding_supports I P wf st H model G flow of) g hg root (λ r o.
        let e : r ≡ 0 = eqb→eq r 0 o in (subst (λ (i : ℕ). i < length P) (sym e) wf.has_root, subst (λ (i : ℕ). T (holds G P g i)) (sym e) ((satisfies_iff G P).0 t g hg s)))) in
        let n : Entry I P ((state_of I P wf st H model G flow of) g c.0) = record { provided = of.methods g hg; minimal = c.1 } in
        let q = (place I P wf st H model G flow of) g hg c.0 (at_entry n) c.2 in
        (q.0, (model.entry_is q.0 q.2.of_h).1 (subst (λ (s : State). Entry I P s) (sym q.1) n), q.2);
  }

  -- The model simulates G exactly where G satisfies the property.
  pub maximal : T (satisfies G P) ↔ Simulates G H
  maximal = (model_simulates, (simulated_satisfies I P wf st H model G flow of))

-- ---- the model is one of the graphs that it stands for

module _ (I : Interface) (P : List Row) (wf : Property P) (st : ℕ → State) (H : Graph) (model : IsModel I P st H) where
  pub model_flow : Flow H
  model_flow = record {
    from_node = λ e m. (model.edge_inside e m).0;
    to_node = λ e m. (model.edge_inside e m).1;
    one_method = λ e m.
        let b = model.edge_inside e m in
        model.method_is e.to b.1 ∙ (model.edge_next e m).same_method ∙ sym (model.method_is e.from b.0);
  }

  pub model_of : Of I H
  model_of = record {
    methods = λ g hg. subst (λ (m : ℕ). T (provides I m)) (sym (model.method_is g hg)) (reached_provided I P (st g) (model.reached g hg));
    calls = λ e m. (model.edge_next e m).label;
  }

  pub model_satisfies : T (satisfies H P)
  model_satisfies = (maximal I P wf st H model H model_flow model_of).1 (simulates_refl H model_flow)
