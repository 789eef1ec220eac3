-- Modelling is refused by the first line of its published order that applies, and otherwise says what `Models` says.
-- Its theorems that rest on a definition which a must-fail edit turns stand in proofs/Theorems/Modelling/Laws.
use Rattle.std.specs.Prelude.{◌≡◌, ◌↔◌, List, [], ◌∷◌, ℕ, ◌≤◌, ◌<◌, length, true, Err}
use Rattle.std.proofs.Common.{sym, ap, ap₂, subst, ◌∙◌, arith}
use Rattle.std.proofs.Math.Path.{refl}
use Rattle.std.proofs.Math.Option.{none}
use Rattle.files.specs.Basics.Says.{says_lt}
use Rattle.files.specs.Decode.{decode_property, decode_interface, graph_bytes}
use Rattle.files.specs.Graph.{Graph, size}
use Rattle.files.specs.Interface.{Interface}
use Rattle.files.specs.Limits.{desk}
use Rattle.files.specs.Outcome.{Said, refuses, says, refusal_at, NoneOf, FirstOf, Matches, TooLarge, graph_said, answer, answered, Written}
use Rattle.files.specs.Outcome.Calls as calls
use Rattle.files.specs.Outcome.Laws.{whole_match, files_match, out_match, refused_by, accepted_by, verdict_is, file_accepted, whole_none, says_too_large, whole_none_i, file_none, none_end}
use Rattle.files.specs.Property.{Row}
use Rattle.files.specs.Refusal.{property, interface, refusal}
use Rattle.files.specs.declared.record.Limits.{Limits}
use Rattle.maximal.specs.Model.{model}
use Rattle.maximal.specs.Modelling.{model_first, model_graph, model_last, model_checks, model_lines, modelled, modelled_answer, Bounded}
use Rattle.files.specs.Outcome.{published}
use Rattle.files.specs.declared.refusal.Refusal.{Refusal}
use Rattle.maximal.specs.Places.{model_room}

module _ (L : Limits) (i p : List ℕ) (out work : ℕ) where
  abbrev said : Said
  said = graph_said (model_graph L i p out work) []

  model_match : Matches (model_checks L i p out work) (model_lines L i p out work)
  model_match =
      whole_match 13 _ (work < model_room) (says_lt work model_room) _ _ (files_match L 1 interface i _ _ (files_match L 2 property p _ _
      (whole_match 11 _ (TooLarge L (model_graph L i p out work)) (says_too_large L (model_graph L i p out work)) _ _ (out_match out said))))

  -- the lines stand in the published order
  pub model_order : published (model_lines L i p out work) ≡ true
  model_order = refl

  -- and are the call's row of the table
  pub model_row : calls.Row L calls.model (i ∷ p ∷ []) (model_lines L i p out work)
  model_row = record { numbers_are = refl; files_are = refl }

  -- refused, by number, file and record, exactly where that comes first in the published order
  pub model_refused : (n f r : ℕ) → (modelled L i p out work ≡ refuses (refusal_at n f r)) ↔ FirstOf (model_lines L i p out work) n f r
  unfolding modelled
  model_refused = refused_by _ _ model_match said

  -- accepted exactly where nothing applies
  pub model_accepted : (modelled L i p out work ≡ says said) ↔ NoneOf (model_lines L i p out work)
  unfolding modelled
  model_accepted = accepted_by _ _ model_match said

  -- the checks before the work, then what is left to it
  pub modelled_is : modelled L i p out work ≡ answered (model_first L i p work (model_last L i p out work)) said
  unfolding modelled
  modelled_is = refl

  -- a verdict is the model's, both files are accepted, and the model is within the limits
  pub model_files : (s : Said) → modelled L i p out work ≡ says s
      → (s ≡ said) × (refusal L interface i ≡ none) × (refusal L property p ≡ none) × (TooLarge L (model_graph L i p out work) → ⊥)
  unfolding modelled
  model_files s e =
      let a = verdict_is _ _ model_match said s e in
      let b = file_accepted L 1 interface i _ (whole_none 13 _ _ a.1).1 in
      let c = file_accepted L 2 property p _ b.1 in
      (a.0, b.0, c.0, (whole_none 11 _ _ c.1).0)

-- ---- of accepted files

-- whatever files are accepted, where the model is within the limits and there is room enough, get the model of what they hold
pub model_on : (L : Limits) (i p : List ℕ) (out work : ℕ) (I : Interface) (P : List Row) (G : Graph) → refusal L interface i ≡ none → refusal L property p ≡ none
    → decode_interface i ≡ I → decode_property p ≡ P → model I P ≡ G → (TooLarge L G → ⊥) → length (graph_bytes G) ≤ out → model_room ≤ work
    → modelled L i p out work ≡ says (graph_said G [])
model_on L i p out work I P G a b c d e small o w =
    (model_accepted L i p out work).1 (whole_none_i 13 _ _ (λ h. absurd (omega arith)) (file_none L 1 interface i _ a (file_none L 2 property p _ b
    (whole_none_i 11 _ _ (λ h. small (subst (TooLarge L) same h)) (whole_none_i 12 _ _ (λ h. absurd (omega (arith, ap (λ (x : Graph). length (graph_bytes x)) same))) none_end)))))
    ∙ ap (λ (x : Graph). says (graph_said x [])) same
  where
    same : model (decode_interface i) (decode_property p) ≡ G
    same = ap₂ model c d ∙ e

-- ---- the answer enum

-- each case answers what its outcome says
pub model_answers : (G : Graph) (r : Refusal) → (modelled_answer (Written (size G) (length G.edges)) ≡ answer (says (graph_said G []))) × (modelled_answer (Err r) ≡ answer (refuses r))
model_answers G r = (refl, refl)

-- ---- the limits of the desk

pub desk_bounded : (L : Limits) → L ≡ desk → Bounded L
desk_bounded L e = subst Bounded (sym e) (record { nodes_fit = omega arith; rows_fit = omega arith; ors_fit = omega arith })
