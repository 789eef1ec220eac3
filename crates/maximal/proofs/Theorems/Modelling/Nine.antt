-- The theorems of specs/Modelling/Nine that rest on a definition which a must-fail edit turns: there they could not be read under the edit.
-- Nine: The models of a property and of the same with operators 10 written as boxes: other states, but the same graphs of the interface are simulated.
use Rattle.std.specs.Prelude.{◌≡◌, ◌↔◌, List, ℕ}
use Rattle.files.specs.Decode.{decode_graph, decode_property, decode_interface}
use Rattle.files.specs.Decode.Properties.{decoded_property}
use Rattle.files.specs.Graph.{Graph, Flow}
use Rattle.files.specs.Interface.{Interface, Of}
use Rattle.files.specs.Outcome.{Said, says}
use Rattle.files.specs.Property.{Row, Property}
use Rattle.files.specs.declared.record.Limits.{Limits}
use Rattle.judging.specs.Levels.Nine.{SpellsOut, all_nine}
use Rattle.judging.specs.Levels.Nine.Laws.{all_nine_spells}
use Rattle.judging.proofs.Theorems.Levels.Nine.Spelled.{spelled_out}
use Rattle.judging.specs.Simulation.{Simulates}
use Rattle.judging.specs.Simulation.Laws.{simulates_refl}
use Rattle.maximal.specs.Model.{model}
use Rattle.maximal.proofs.Theorems.Model.Filed.{model_is_flow, model_is_of}
use Rattle.maximal.specs.Modelling.{modelled}
use Rattle.maximal.specs.Modelling.Laws.{model_files}
use Rattle.maximal.proofs.Theorems.Modelling.Laws.{model_simulates_iff, model_says}
use Rattle.maximal.specs.Modelling.Nine.{of_satisfies}

module _ (I : Interface) (P Q : List Row) (wf : Property P) (spells : SpellsOut P Q) where
  pub nine_simulated : (G : Graph) → Flow G → Of I G → Simulates G (model I P) ↔ Simulates G (model I Q)
  nine_simulated G flow of =
      let a = model_simulates_iff I P wf G flow of in
      let b = model_simulates_iff I Q (spelled_out P Q wf spells).is_property G flow of in
      let c = of_satisfies I P Q wf spells G flow of in
      (λ x. b.1 (c.0 (a.0 x)), λ x. a.1 (c.1 (b.0 x)))

  -- each model is itself a graph of the interface, so each simulates the other
  pub nine_models : Simulates (model I P) (model I Q) × Simulates (model I Q) (model I P)
  nine_models =
      let w = (spelled_out P Q wf spells).is_property in
      let f = model_is_flow I P wf in
      let g = model_is_flow I Q w in
      ((nine_simulated (model I P) f (model_is_of I P wf)).0 (simulates_refl (model I P) f), (nine_simulated (model I Q) g (model_is_of I Q w)).1 (simulates_refl (model I Q) g))

-- with every operator 10 written as nine boxes
pub all_nine_simulated : (I : Interface) (P : List Row) → Property P → (G : Graph) → Flow G → Of I G → Simulates G (model I P) ↔ Simulates G (model I (all_nine P))
all_nine_simulated I P wf = nine_simulated I P (all_nine P) wf (all_nine_spells P)

-- On the bytes of the files: where both models are written they simulate the same graphs of the interface, however large.
pub nine_modelled : (L M : Limits) (i p q : List ℕ) (out work out' work' : ℕ) (s t : Said) → SpellsOut (decode_property p) (decode_property q)
    → modelled L i p out work ≡ says s → modelled M i q out' work' ≡ says t
    → (G : Graph) → Flow G → Of (decode_interface i) G → Simulates G (decode_graph s.written) ↔ Simulates G (decode_graph t.written)
nine_modelled L M i p q out work out' work' s t spells d e G flow of =
    let wf = (decoded_property L p (model_files L i p out work s d).2).rows_named in
    let a = (model_says L i p out work s d).simulates_iff G flow of in
    let b = (model_says M i q out' work' t e).simulates_iff G flow of in
    let c = of_satisfies (decode_interface i) (decode_property p) (decode_property q) wf spells G flow of in
    (λ x. b.1 (c.0 (a.0 x)), λ x. a.1 (c.1 (b.0 x)))
