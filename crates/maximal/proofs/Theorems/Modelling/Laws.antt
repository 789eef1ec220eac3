-- The theorems of specs/Modelling/Laws that rest on a definition which a must-fail edit turns: there they could not be read under the edit.
-- Laws: Modelling is refused by the first line of its published order that applies, and otherwise says what `Models` says.
use Rattle.std.specs.Prelude.{◌≡◌, ◌↔◌, List, [], ◌∷◌, ℕ, ◌<◌, length}
use Rattle.std.proofs.Common.{sym, ap, subst, ◌∙◌, arith}
use Rattle.std.proofs.Math.Decide.{dec_lt}
use Rattle.files.specs.Decode.{decode_graph, decode_property, decode_interface, graph_bytes}
use Rattle.files.specs.Decode.Accepted.{accepted_bytes}
use Rattle.files.specs.Decode.Properties.{decoded_property}
use Rattle.files.specs.Decode.Written.{decode_bytes}
use Rattle.files.specs.Graph.{Graph, Flow, size}
use Rattle.files.specs.Interface.{Interface, Of}
use Rattle.files.specs.Outcome.{Said, says, TooLarge, graph_said}
use Rattle.files.specs.Outcome.Laws.{small_enough}
use Rattle.files.specs.Property.{Row, Property}
use Rattle.files.specs.Refusal.{graph, refusal}
use Rattle.files.specs.declared.record.Limits.{Limits}
use Rattle.judging.specs.Levels.{Satisfies}
use Rattle.judging.proofs.Theorems.Levels.Laws.{satisfies_agrees}
use Rattle.judging.specs.Simulation.{Simulates}
use Rattle.maximal.specs.Model.{State, IsModel, model, state_at}
use Rattle.maximal.specs.Model.Ordered.{Earlier, earlier_not, state_order}
use Rattle.maximal.proofs.Theorems.Model.Computed.{is_model}
use Rattle.maximal.proofs.Theorems.Model.Filed.{model_is_of, model_filed}
use Rattle.maximal.proofs.Theorems.Model.Maximal.{maximal}
use Rattle.maximal.specs.Modelling.{modelled, Models}
use Rattle.maximal.specs.Modelling.Laws.{model_files}

-- the model, for every flow graph of the interface, in the words of judging
pub model_simulates_iff : (I : Interface) (P : List Row) → Property P → (G : Graph) → Flow G → Of I G → Simulates G (model I P) ↔ Satisfies G P
model_simulates_iff I P wf G flow of =
    let a = maximal I P wf (state_at I P) (model I P) (is_model I P wf) G flow of in
    let b = satisfies_agrees G P flow wf in
    (λ s. b.0 (a.1 s), λ f. a.0 (b.1 f))

model_cases : (L : Limits) (I : Interface) (P : List Row) (s : Said) → Property P → (TooLarge L (model I P) → ⊥) → s ≡ graph_said (model I P) [] → Models L I P s
model_cases L I P s wf small e =
    let h = small_enough L (model I P) small in
    let w : s.written ≡ graph_bytes (model I P) = ap (λ (x : Said). x.written) e in
    let d : decode_graph s.written ≡ model I P = ap decode_graph w ∙ decode_bytes (model I P) in
    record {
      verdict_one = ap (λ (x : Said). x.verdict) e;
      accepted = ap (refusal L graph) w ∙ accepted_bytes L (model I P) (model_filed I P wf L h.0 h.1);
      is_the_model = d;
      counted = ap (λ (x : Said). x.values) e ∙ ap (λ (G : Graph). size G ∷ length G.edges ∷ []) (sym d);
      of_interface = subst (Of I) (sym d) (model_is_of I P wf);
      is_model = subst (IsModel I P (state_at I P)) (sym d) (is_model I P wf);
      ascending = λ i j h k. state_order I P i j h (subst (λ (G : Graph). j < size G) d k);
      each_once = λ i j h k q. once i j (subst (λ (G : Graph). i < size G) d h) (subst (λ (G : Graph). j < size G) d k) q (dec_lt i j) (dec_lt j i);
      simulates_iff = λ G flow of.
          let a = model_simulates_iff I P wf G flow of in
          (λ x. a.0 (subst1 G (decode_graph s.written) (model I P) d x), λ f. subst1 G (model I P) (decode_graph s.written) (sym d) (a.1 f));
    }
  where
    once : (i j : ℕ) → i < size (model I P) → j < size (model I P) → state_at I P i ≡ state_at I P j → Dec (i < j) → Dec (j < i) → i ≡ j
    once i j hi hj q (yes a) b = absurd (earlier_not (state_at I P j) (subst (λ (x : State). Earlier x (state_at I P j)) q (state_order I P i j a hj)))
    once i j hi hj q (no a) (yes b) = absurd (earlier_not (state_at I P i) (subst (λ (x : State). Earlier x (state_at I P i)) (sym q) (state_order I P j i b hi)))
    once i j hi hj q (no a) (no b) = omega arith

    subst1 : (G H K : Graph) → H ≡ K → Simulates G H → Simulates G K
    subst1 G H K q x = subst (λ (X : Graph). Simulates G X) q x

-- Whatever the bytes and lengths: what modelling says where it is not refused.
pub model_says : (L : Limits) (i p : List ℕ) (out work : ℕ) (s : Said) → modelled L i p out work ≡ says s → Models L (decode_interface i) (decode_property p) s
model_says L i p out work s e =
    let a = model_files L i p out work s e in
    model_cases L (decode_interface i) (decode_property p) s (decoded_property L p a.2).rows_named a.3 a.0
