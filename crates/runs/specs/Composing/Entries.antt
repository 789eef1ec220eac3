-- "A method needs an entry": of the modules that conform those that load, with an entry for each provided method; and that the model lacks one exactly where none loads. For request
-- 6, in composed verdicts only: judging, comparing, modelling and watching speak of conforming graphs.
-- Its theorems that rest on a definition which a must-fail edit turns stand in proofs/Theorems/Composing/Entries.
use Rattle.std.specs.Prelude.{◌≡◌, ◌⊎◌, ◌↔◌, not, List, [], ℕ, T}
use Rattle.std.proofs.Common.{◌∙◌, inl, inr}
use Rattle.files.specs.Basics.Tests.{decide}
use Rattle.files.specs.Graph.{Graph, EntryOf}
use Rattle.files.specs.Interface.{Interface}
use Rattle.files.specs.Join.{join}
use Rattle.files.specs.Outcome.{Said}
use Rattle.files.specs.Property.{Row, Property}
use Rattle.files.specs.Rules.{Monitor}
use Rattle.files.specs.Sides.{lacks_entry}
use Rattle.files.specs.Sides.Entries.{says_lacks_entry, entered_i}
use Rattle.maximal.specs.Model.{model}
use Rattle.maximal.proofs.Theorems.Modelling.Laws.{model_simulates_iff}
use Rattle.runs.specs.Composing.{Conforms, Loads, Side, known, unwritten, gives, Admits, LoadsOn, SomeLoads, NoneLoads, AllClean, SomeBad}
use Rattle.runs.specs.Composing.Sides.{model_conforms}
use Rattle.runs.specs.Runs.{Clean}
use Rattle.runs.specs.Watching.{Watches}

module _ (I : Interface) (P : List Row) (wf : Property P) where
  -- an entry of a conforming graph is covered by one of the model
  entry_covered : (G : Graph) → Conforms I P G → (m n : ℕ) → EntryOf G m n → (k : ℕ) × EntryOf (model I P) m k
  entry_covered G c m n e =
      let s = (model_simulates_iff I P wf G c.is_flow c.is_of).1 c.is_satisfying in
      let a = s.covers n e.is_node e.is_entry in
      (a.0, record { is_node = s.simulation.of_second n a.0 a.2; is_entry = a.1; in_method = s.simulation.same_method n a.0 a.2 ∙ e.in_method })

  -- a model that lacks no entry loads
  pub model_loads : T (not (lacks_entry I (model I P))) → Loads I P (model I P)
  model_loads t = record { conforms = model_conforms I P wf; entered = entered_i I (model I P) t }

  -- "exactly when no finite graph of the interface with all its entries satisfies the property"
  pub impossible_iff : T (lacks_entry I (model I P)) ↔ ((G : Graph) → Loads I P G → ⊥)
  impossible_iff = (
    λ t G l. let x = (says_lacks_entry I (model I P)).say t in
        let e = l.entered x.0 x.1 in
        let k = entry_covered G l.conforms x.0 e.0 e.1 in
        x.2 k.0 k.1,
    λ f. go f (decide (lacks_entry I (model I P))),
  )
    where
      go : ((G : Graph) → Loads I P G → ⊥) → T (lacks_entry I (model I P)) ⊎ T (not (lacks_entry I (model I P))) → T (lacks_entry I (model I P))
      go f (inl t) = t
      go f (inr t) = absurd (f (model I P) (model_loads t))

-- ---- sides

pub loads_admitted : (A : Side) (G : Graph) → LoadsOn A G → Admits A G
loads_admitted (known K) G e = e
loads_admitted (unwritten I P) G l = l.conforms

-- ---- what is said

-- "impossible" exactly where on one of the sides nothing loads; "clean" exactly where something loads on each and all that do, of any size, are clean joined; "bad" exactly
-- where some that load are not, and then the trail is one of what the sides give, which load. "Clean" speaks for modules without all their entries too.
pub record SidesSay (A B : Side) (mon : Monitor) (m : ℕ) (s : Said) : Type 0 where
  pub impossible_is : (s.verdict ≡ 3) ↔ (NoneLoads A ⊎ NoneLoads B)
  pub clean_is : (s.verdict ≡ 1) ↔ (SomeLoads A × (SomeLoads B × AllClean A B mon m))
  pub bad_is : (s.verdict ≡ 2) ↔ SomeBad A B mon m
  pub clean_without_entries : s.verdict ≡ 1 → (G H : Graph) → Admits A G → Admits B H → Clean (join G H) mon m
  pub given_loads : s.verdict ≡ 2 → LoadsOn A (gives A) × LoadsOn B (gives B)
  pub impossible_writes : s.verdict ≡ 3 → (s.values ≡ []) × (s.written ≡ [])
  pub on_given : (s.verdict ≡ 3 → ⊥) → Watches (join (gives A) (gives B)) mon m s
  pub three : (s.verdict ≡ 1) ⊎ ((s.verdict ≡ 2) ⊎ (s.verdict ≡ 3))
