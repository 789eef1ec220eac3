-- The theorems of specs/Sheets/Laws that rest on a definition which a must-fail edit turns: there they could not be read under the edit.
-- Laws: Laws of the fault sheet in a lent buffer: ranks read off their cells, the lowest failing entry, and the foremost target of a box, edge by edge.
use Rattle.std.specs.Prelude.{◌≡◌, Bool, true, false, not, cond, List, ℕ, suc, ◌*◌, ◌<◌, T, eqb, length}
use Rattle.std.proofs.Math.Path.{refl}
use Rattle.std.proofs.Common.{sym, ap, subst, ◌∙◌, arith, T_not, eq-eqb, ne_eqb}
use Rattle.std.proofs.Math.Dec.{not_T}
use Rattle.files.specs.Graph.{Graph, size, Flow}
use Rattle.files.specs.Property.{Row, Property}
use Rattle.judging.specs.Levels.{level, holds, rank}
use Rattle.judging.proofs.Theorems.Levels.Laws.{never_false}
use Rattle.judging.proofs.Theorems.Levels.Ranks.{rank_step}
use Rattle.judging.specs.Levels.Sheet.Laws.{rank_is}
use Rattle.judging.specs.Ranking.{rank_at, Ranked}
use Rattle.judging.specs.Sheets.Laws.{cell_is, least_none}

module _ (G : Graph) (P : List Row) (flow : Flow G) (wf : Property P) where
  -- the rank of what holds is past every level
  rank_past : (g r : ℕ) → g < size G → r < length P → T (holds G P g r) → rank G P g r ≡ suc (size G * length P)
  rank_past g r hg hr t =
      rank_is G P g r
      ∙ least_none (λ k. not (level G P k g r)) (suc (size G * length P))
      (λ k h. not_T (not (level G P k g r)) (λ s. T_not (level G P k g r) s (never_false G P flow wf g r hg hr t k)))

  module _ (w : List ℕ) (found : Ranked G P w) (g r : ℕ) (hg : g < size G) (hr : r < length P) where
    -- a cell is 0 where its row holds, and only there
    pub zero_holds : eqb (rank_at w g r) 0 ≡ holds G P g r
    zero_holds = ap (λ (n : ℕ). eqb n 0) (cell_is G P flow wf w found g r hg hr) ∙ go (holds G P g r) refl
      where
        go : (b : Bool) → holds G P g r ≡ b → eqb (cond b 0 (rank G P g r)) 0 ≡ b
        go true e = refl
        go false e = ne_eqb (rank G P g r) 0 (λ z. omega (arith, z, (rank_step G P flow wf g r (subst (λ (b : Bool). T (not b)) (sym e) tt)).1))

    pub rank_zero : rank_at w g r ≡ 0 → rank G P g r ≡ suc (size G * length P)
    rank_zero e = rank_past g r hg hr (subst T (sym (eq-eqb (rank_at w g r) 0 e) ∙ zero_holds) tt)

    pub rank_found : (rank_at w g r ≡ 0 → ⊥) → rank_at w g r ≡ rank G P g r
    rank_found f = (cell_is G P flow wf w found g r hg hr) ∙ ap (λ (b : Bool). cond b 0 (rank G P g r)) (sym zero_holds ∙ ne_eqb (rank_at w g r) 0 f)
