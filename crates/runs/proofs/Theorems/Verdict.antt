-- The theorems of specs/Verdict that rest on a definition which a must-fail edit turns: there they could not be read under the edit.
-- Verdict: Demand 3 and wish 6 of the composed verdict, about what the call says, for all bytes and lengths: the only hypothesis is that the answer is no refusal.
use Rattle.std.specs.Prelude.{◌≡◌, refl, ◌⊎◌, ◌↔◌, List, ℕ}
use Rattle.std.proofs.Common.{sym, subst, inl, inr}
use Rattle.files.specs.Decode.{decode_graph, decode_property, decode_interface, decode_rules}
use Rattle.files.specs.Graph.{Graph}
use Rattle.files.specs.Join.{join}
use Rattle.files.specs.Outcome.{Said, says}
use Rattle.files.specs.Rules.{watch}
use Rattle.files.specs.Sides.{Entered}
use Rattle.files.specs.declared.record.Limits.{Limits}
use Rattle.runs.specs.Composing.{Conforms, Loads, known, unwritten, composed}
use Rattle.runs.specs.Composing.Entries.{SidesSay}
use Rattle.runs.specs.Composing.Laws.{ComposeSays}
use Rattle.runs.proofs.Theorems.Composing.Laws.{compose_says}
use Rattle.runs.specs.Runs.{Bad, Clean}
use Rattle.runs.specs.Unwritten.{first_side, second_side, composed_both}
use Rattle.runs.proofs.Theorems.Unwritten.Laws.{both_says}
use Rattle.runs.specs.Verdict.{BadShows, bad_shows}
pub mod Nine

-- ---- one side unwritten

module _ (L : Limits) (ki kg oi p r : List ℕ) (m out store work : ℕ) (s : Said) (said : composed L ki kg oi p r m out store work ≡ says s) where
  a : ComposeSays ki kg oi p r m s
  a = compose_says L ki kg oi p r m out store work s said

  -- '"Impossible" is said, of input that isn't refused, exactly when no finite graph of the interface with all its entries satisfies the property'
  pub impossible_is_impossible : (s.verdict ≡ 3) ↔ ((G : Graph) → Loads (decode_interface oi) (decode_property p) G → ⊥)
  impossible_is_impossible = (λ v. none (a.on_sides.impossible_is.0 v), λ f. a.on_sides.impossible_is.1 (inr f))
    where
      none : ((G : Graph) → G ≡ decode_graph kg → ⊥) ⊎ ((G : Graph) → Loads (decode_interface oi) (decode_property p) G → ⊥) → (G : Graph) → Loads (decode_interface oi) (decode_property p) G → ⊥
      none (inl f) = absurd (f (decode_graph kg) refl)
      none (inr f) = f

  -- '"clean" .. is said exactly when, whatever conforming graph of any size is joined, no run turns the monitor bad', and some graph conforms: "Clean speaks for the rest"
  pub clean_is_clean : (s.verdict ≡ 1) ↔ (((G : Graph) × Loads (decode_interface oi) (decode_property p) G)
      × ((G : Graph) → Loads (decode_interface oi) (decode_property p) G → Clean (join (decode_graph kg) G) (watch (decode_rules r)) m))
  clean_is_clean = (
    λ v. let x = a.on_sides.clean_is.0 v in (x.1.0, λ G y. x.1.1 (decode_graph kg) G refl y),
    λ x. a.on_sides.clean_is.1 ((decode_graph kg, refl), (x.0, λ X G e y. subst (λ (Y : Graph). Clean (join Y G) (watch (decode_rules r)) m) (sym e) (x.1 G y))),
  )

  pub bad_is_bad : (s.verdict ≡ 2) ↔ ((G : Graph) × Loads (decode_interface oi) (decode_property p) G × Bad (join (decode_graph kg) G) (watch (decode_rules r)) m)
  bad_is_bad = (
    λ v. let x = a.on_sides.bad_is.0 v in (x.1, x.3, subst (λ (Y : Graph). Bad (join Y x.1) (watch (decode_rules r)) m) x.2 x.4),
    λ x. a.on_sides.bad_is.1 (decode_graph kg, x.0, refl, x.1, x.2),
  )

  pub bad_is_shown : s.verdict ≡ 2 → BadShows (known (decode_graph kg)) (unwritten (decode_interface oi) (decode_property p)) (watch (decode_rules r)) m s
  bad_is_shown = bad_shows (known (decode_graph kg)) (unwritten (decode_interface oi) (decode_property p)) (watch (decode_rules r)) m s a.on_sides

  -- the base's sentence: "clean" holds of every graph that conforms, with all its entries or without
  pub clean_without_entries : s.verdict ≡ 1 → (G : Graph) → Conforms (decode_interface oi) (decode_property p) G → Clean (join (decode_graph kg) G) (watch (decode_rules r)) m
  clean_without_entries v G c = a.on_sides.clean_without_entries v (decode_graph kg) G refl c

  -- there is no fourth verdict
  pub three_verdicts : (s.verdict ≡ 1) ⊎ ((s.verdict ≡ 2) ⊎ (s.verdict ≡ 3))
  three_verdicts = a.on_sides.three

  -- 16: a known graph that is not refused has an entry for each method that it provides
  pub known_entered : Entered (decode_interface ki) (decode_graph kg)
  known_entered = a.known_entered

-- ---- two sides unwritten

module _ (L : Limits) (i₁ p₁ i₂ p₂ r : List ℕ) (m out store work : ℕ) (s : Said) (said : composed_both L i₁ p₁ i₂ p₂ r m out store work ≡ says s) where
  b : SidesSay (first_side i₁ p₁) (second_side i₂ p₂) (watch (decode_rules r)) m s
  b = both_says L i₁ p₁ i₂ p₂ r m out store work s said

  -- "for two unwritten sides, when either has none"
  pub both_impossible_is_impossible : (s.verdict ≡ 3) ↔ (((G : Graph) → Loads (decode_interface i₁) (decode_property p₁) G → ⊥) ⊎ ((H : Graph) → Loads (decode_interface i₂) (decode_property p₂) H → ⊥))
  both_impossible_is_impossible = b.impossible_is

  -- '"Clean" is then said exactly when every pair of conforming graphs is clean from the start method', and there are such
  pub both_clean_is_clean : (s.verdict ≡ 1) ↔ (((G : Graph) × Loads (decode_interface i₁) (decode_property p₁) G) × (((H : Graph) × Loads (decode_interface i₂) (decode_property p₂) H)
      × ((G H : Graph) → Loads (decode_interface i₁) (decode_property p₁) G → Loads (decode_interface i₂) (decode_property p₂) H → Clean (join G H) (watch (decode_rules r)) m)))
  both_clean_is_clean = b.clean_is

  pub both_bad_is_bad : (s.verdict ≡ 2) ↔ ((G : Graph) × (H : Graph) × Loads (decode_interface i₁) (decode_property p₁) G × Loads (decode_interface i₂) (decode_property p₂) H
      × Bad (join G H) (watch (decode_rules r)) m)
  both_bad_is_bad = b.bad_is

  pub both_bad_is_shown : s.verdict ≡ 2 → BadShows (first_side i₁ p₁) (second_side i₂ p₂) (watch (decode_rules r)) m s
  both_bad_is_shown = bad_shows (first_side i₁ p₁) (second_side i₂ p₂) (watch (decode_rules r)) m s b

  -- request 3's sentence: "clean" holds of every pair that conforms, with all entries or without
  pub both_clean_without_entries : s.verdict ≡ 1 → (G H : Graph) → Conforms (decode_interface i₁) (decode_property p₁) G → Conforms (decode_interface i₂) (decode_property p₂) H
      → Clean (join G H) (watch (decode_rules r)) m
  both_clean_without_entries = b.clean_without_entries

  pub both_three_verdicts : (s.verdict ≡ 1) ⊎ ((s.verdict ≡ 2) ⊎ (s.verdict ≡ 3))
  both_three_verdicts = b.three
