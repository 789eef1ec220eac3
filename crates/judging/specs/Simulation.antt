-- Simulation: what a simulation is, the largest one by refinement, the verdict, and the relation's bytes. (Source document 000.)
use Rattle.std.specs.Prelude.{◌≡◌, Bool, true, not, ◌&&◌, ℕ, zero, suc, ◌*◌, ◌<◌, T, eqb, ltb}
use mathlib.Core.List.{List, Memᴰ}
use Rattle.files.specs.Basics.Tests.{imp, same, all, any, upto}
use Rattle.files.specs.Basics.Lists.{each, span}
use Rattle.files.specs.Basics.Least.{least}
use Rattle.files.specs.Graph.{Node, Edge, Graph, size, node}
use Rattle.files.specs.Line.{relation_line}
pub mod Laws
pub mod Bytes
pub mod Examples

-- "Related nodes agree on method and return flag. Each edge of the first is matched by an equally labelled edge of the second to a related node."
pub record Simulation (G H : Graph) (R : ℕ → ℕ → Type 0) : Type 0 where
  pub of_first : (g h : ℕ) → R g h → g < size G
  pub of_second : (g h : ℕ) → R g h → h < size H
  pub same_method : (g h : ℕ) → R g h → (node H h).method ≡ (node G g).method
  pub same_ret : (g h : ℕ) → R g h → (node H h).ret ≡ (node G g).ret
  pub matched : (g h : ℕ) → R g h → (e : Edge) → Memᴰ e G.edges → e.from ≡ g
      → (d : Edge) × Memᴰ d H.edges × (d.from ≡ h) × (d.label ≡ e.label) × R e.to d.to

-- R gives node g "a related entry of the second"
abbrev pub Covered : Graph → (ℕ → ℕ → Type 0) → ℕ → Type 0
Covered H R g = (h : ℕ) × T (node H h).entry × R g h

-- "The second simulates the first when some such relation gives every entry of the first a related entry of the second."
pub record Simulates (G H : Graph) : Type 1 where
  pub rel : ℕ → ℕ → Type 0
  pub simulation : Simulation G H rel
  pub covers : (g : ℕ) → g < size G → T (node G g).entry → Covered H rel g

-- ---- the largest, by refinement

pub alike : Node → Node → Bool
alike a b = eqb b.method a.method && same b.ret a.ret

-- some edge of h matches e, where v relates the targets
pub matching : Graph → (ℕ → ℕ → Bool) → ℕ → Edge → Bool
matching H v h e = any (λ (d : Edge). eqb d.from h && (eqb d.label e.label && v e.to d.to)) H.edges

-- g and h agree, and every edge of g is matched, where v relates the targets
pub keeps : Graph → Graph → (ℕ → ℕ → Bool) → ℕ → ℕ → Bool
keeps G H v g h = alike (node G g) (node H h) && all (λ (e : Edge). imp (eqb e.from g) (matching H v h e)) G.edges

pub refined : Graph → Graph → ℕ → ℕ → ℕ → Bool
refined G H zero g h = true
refined G H (suc k) g h = keeps G H (refined G H k) g h

-- the largest simulation (Laws, `related_simulation` and `largest`)
pub related : Graph → Graph → ℕ → ℕ → Bool
related G H g h = ltb g (size G) && (ltb h (size H) && refined G H (size G * size H) g h)

-- the same, computed: an entry of the second is related to g by the largest simulation (Laws, `covered_e` and `covered_i`)
pub covered : Graph → Graph → ℕ → Bool
covered G H g = any (λ (h : ℕ). (node H h).entry && related G H g h) (upto (size H))

-- the verdict
pub simulates : Graph → Graph → Bool
simulates G H = all (λ (g : ℕ). imp (node G g).entry (covered G H g)) (upto (size G))

-- 'A "no" names the lowest uncovered entry.'
pub uncovered : Graph → Graph → ℕ
uncovered G H = least (λ (g : ℕ). (node G g).entry && not (covered G H g)) (size G)

-- ---- the relation's bytes

-- "The largest relation is written, under either verdict, as 32 bytes per node g of the first graph"
pub relation_bytes : Graph → Graph → List ℕ
relation_bytes G H = each (λ (g : ℕ). relation_line (related G H g)) (span 0 (size G))
