use mathlib.Core.Path.{sym, ap, ◌∙◌}
use mathlib.Core.Logic.{inr}
use Prim.Native.Nat.{ℕ}
use native.Mathlib.Omega.{arith}
use lib.ListN.{replicate}
use Rattle.files.specs.Decode.{decode_graph, decode_rules}
use Rattle.files.specs.Rules.{watch}
use Rattle.files.specs.Cells.Laws.{zero_byte}
use Rattle.runs.specs.Worklist.Loops.{table_yields}
use Rattle.runs.proofs.watching.find_trail.Goals as goal

pub search-requires : goal.search-requires
search-requires c =
    let a = c.args in
    let x = c.clear in
    let zeros = x.ensures ∙ ap (λ (n : ℕ). replicate n 0) (sym x.auto.work) in
    let p = c.prepare in
    let s = c.summarize-table in (
      c.requires.0,
      (
        table_yields (decode_graph a.graph.now) (watch (decode_rules a.rules.now)) s.result s.ensures.0,
        (
          omega (arith, s.auto.work, p.auto.work, x.auto.work, c.requires.1),
          (
            s.ensures.1.0,
            λ q h. s.ensures.1.1 q h ∙ p.ensures.1 q (inr (omega (arith, h))) ∙ zero_byte x.new.work zeros q,
          ),
        ),
      ),
    )
