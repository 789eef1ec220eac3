-- The theorems of specs/Verdict/Nine that rest on a definition which a must-fail edit turns: there they could not be read under the edit.
-- Nine: Composed verdicts of a property and of the same with operators 10 written as boxes are equal, where neither is refused.
use Rattle.std.specs.Prelude.{◌≡◌, ◌⊎◌, ◌↔◌, List, ℕ}
use Rattle.std.proofs.Common.{sym, ◌∙◌, inl, inr}
use Rattle.files.specs.Decode.{decode_property, decode_interface}
use Rattle.files.specs.Graph.{Graph}
use Rattle.files.specs.Outcome.{Said, says}
use Rattle.files.specs.declared.record.Limits.{Limits}
use Rattle.judging.specs.Levels.Nine.{SpellsOut}
use Rattle.runs.specs.Composing.{Loads, composed}
use Rattle.runs.proofs.Theorems.Composing.Laws.{compose_says}
use Rattle.runs.proofs.Theorems.Verdict.{impossible_is_impossible, clean_is_clean, three_verdicts}
use Rattle.runs.specs.Verdict.Nine.{nine_loads}

module _ (L M : Limits) (ki kg oi p q r : List ℕ) (m out store work out' store' work' : ℕ) (s t : Said) (spells : SpellsOut (decode_property p) (decode_property q))
    (d : composed L ki kg oi p r m out store work ≡ says s) (e : composed M ki kg oi q r m out' store' work' ≡ says t) where
  same : (G : Graph) → Loads (decode_interface oi) (decode_property p) G ↔ Loads (decode_interface oi) (decode_property q) G
  same = nine_loads (decode_interface oi) (decode_property p) (decode_property q) (compose_says L ki kg oi p r m out store work s d).is_property spells

  -- "clean" of the one exactly where "clean" of the other
  pub nine_clean : (s.verdict ≡ 1) ↔ (t.verdict ≡ 1)
  nine_clean =
      let a = clean_is_clean L ki kg oi p r m out store work s d in
      let b = clean_is_clean M ki kg oi q r m out' store' work' t e in (
        λ v. let x = a.0 v in b.1 ((x.0.0, (same x.0.0).0 x.0.1), λ G y. x.1 G ((same G).1 y)),
        λ v. let x = b.0 v in a.1 ((x.0.0, (same x.0.0).1 x.0.1), λ G y. x.1 G ((same G).0 y)),
      )

  -- and so of "impossible"
  pub nine_impossible : (s.verdict ≡ 3) ↔ (t.verdict ≡ 3)
  nine_impossible =
      let a = impossible_is_impossible L ki kg oi p r m out store work s d in
      let b = impossible_is_impossible M ki kg oi q r m out' store' work' t e in
      (λ v. b.1 (λ G y. a.0 v G ((same G).1 y)), λ v. a.1 (λ G y. b.0 v G ((same G).0 y)))

  -- so the verdict numbers are equal
  pub nine_composed : s.verdict ≡ t.verdict
  nine_composed = go (three_verdicts L ki kg oi p r m out store work s d) (three_verdicts M ki kg oi q r m out' store' work' t e)
    where
      go : (s.verdict ≡ 1) ⊎ ((s.verdict ≡ 2) ⊎ (s.verdict ≡ 3)) → (t.verdict ≡ 1) ⊎ ((t.verdict ≡ 2) ⊎ (t.verdict ≡ 3)) → s.verdict ≡ t.verdict
      go (inl a) c = a ∙ sym (nine_clean.0 a)
      go (inr (inr a)) c = a ∙ sym (nine_impossible.0 a)
      go (inr (inl a)) (inl b) = nine_clean.1 b ∙ sym b
      go (inr (inl a)) (inr (inr b)) = nine_impossible.1 b ∙ sym b
      go (inr (inl a)) (inr (inl b)) = a ∙ sym b
