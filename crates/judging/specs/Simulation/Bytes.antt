-- "These bytes are a simulation that covers every entry": as a fact and as a test, apart from the search for the largest one. What compare writes on "yes" passes.
use Rattle.std.specs.Prelude.{◌≡◌, refl, Bool, true, false, ◌&&◌, ℕ, ◌+◌, ◌*◌, ◌/◌, ◌%◌, ◌<◌, eqb, ltb, get_or}
use Rattle.std.proofs.Common.{sym, ap, subst, ◌∙◌, lt→ltb}
use mathlib.Core.List.{List, Memᴰ}
use native.Mathlib.Omega.{arith}
use Rattle.std.proofs.Math.Dec.{T, ltb→lt}
use Rattle.files.specs.Basics.Binary.{bit}
use Rattle.files.specs.Basics.Tests.{imp, imp_i, imp_e, and_l, and_r, and_i, all, all_i, all_e, any, any_i, any_e, upto, upto_i, upto_e, one}
use Rattle.files.specs.Graph.{Graph, Edge, size, node, Flow}
use Rattle.files.specs.Places.{max_nodes}
use Rattle.judging.specs.Simulation.{Simulation, keeps, related, simulates, relation_bytes}
use Rattle.judging.specs.Simulation.Laws.{Keeps, keeps_e, keeps_i, related_simulation, covered_e, simulates_covers, relation_bit}

-- bit h of node g's line
abbrev pub has : List ℕ → ℕ → ℕ → Bool
has l g h = eqb (bit (get_or l (32 * g + h / 8) 0) (h % 8)) 1

-- the relation that the bytes hold
abbrev pub Says : Graph → List ℕ → ℕ → ℕ → Type 0
Says G l g h = (g < size G) × (h < max_nodes) × T (has l g h)

-- the bytes hold a simulation, and it gives every entry of the first graph a related entry of the second
pub record Covering (G H : Graph) (l : List ℕ) : Type 0 where
  pub is_simulation : Simulation G H (Says G l)
  pub covers : (g : ℕ) → g < size G → T (node G g).entry → (h : ℕ) × (h < size H) × T (node H h).entry × Says G l g h

-- the same as a test: no bit for a node that is not there, each pair kept by the relation itself, each entry covered
abbrev row_kept : Graph → Graph → List ℕ → ℕ → Bool
row_kept G H l g = all (λ (h : ℕ). imp (has l g h) (ltb h (size H) && keeps G H (has l) g h)) (upto 256)

abbrev entry_covered : Graph → Graph → List ℕ → ℕ → Bool
entry_covered G H l g = imp (node G g).entry (any (λ (h : ℕ). (node H h).entry && has l g h) (upto (size H)))

pub covering : Graph → Graph → List ℕ → Bool
covering G H l = all (row_kept G H l) (upto (size G)) && all (entry_covered G H l) (upto (size G))

module _ (G H : Graph) (l : List ℕ) (fg : Flow G) (fh : Flow H) (few : size H < 257) where
  pub covering_e : T (covering G H l) → Covering G H l
  unfolding covering
  covering_e t = record {
    is_simulation = record {
      of_first = λ g h x. x.0;
      of_second = λ g h x. ltb→lt h (size H) (and_l (ltb h (size H)) (keeps G H (has l) g h) (kept g h x));
      same_method = λ g h x. (fact g h x).same_method;
      same_ret = λ g h x. (fact g h x).same_ret;
      matched = λ g h x e m p.
          let a = (fact g h x).matched e m p in
          (a.0, a.1, a.2, a.3, (fg.to_node e m, below a.0 a.1, a.4));
    };
    covers = λ g hg s.
        let a = any_e (λ (h : ℕ). (node H h).entry && has l g h) (upto (size H)) (imp_e (node G g).entry _ (all_e (entry_covered G H l) (upto (size G)) (and_r (all (row_kept G H l) (upto (size G))) _ t) g (upto_i (size G) g hg)) s) in
        let k = upto_e (size H) a.0 a.1 in
        (a.0, k, and_l (node H a.0).entry (has l g a.0) a.2, (hg, near a.0 k, and_r (node H a.0).entry (has l g a.0) a.2));
  }
    where
      near : (h : ℕ) → h < size H → h < max_nodes
      near h k = omega arith

      below : (d : Edge) → Memᴰ d H.edges → d.to < max_nodes
      below d m = near d.to (fh.to_node d m)

      kept : (g h : ℕ) → Says G l g h → T (ltb h (size H) && keeps G H (has l) g h)
      kept g h x =
          imp_e (has l g h) _ (all_e (λ (k : ℕ). imp (has l g k) (ltb k (size H) && keeps G H (has l) g k)) (upto 256)
          (all_e (row_kept G H l) (upto (size G)) (and_l (all (row_kept G H l) (upto (size G))) _ t) g (upto_i (size G) g x.0)) h (upto_i 256 h x.1)) x.2

      fact : (g h : ℕ) → Says G l g h → Keeps G H (λ g h. T (has l g h)) g h
      fact g h x = keeps_e G H (has l) g h (and_r (ltb h (size H)) (keeps G H (has l) g h) (kept g h x))

  pub covering_i : Covering G H l → T (covering G H l)
  unfolding covering
  covering_i c =
      and_i (all (row_kept G H l) (upto (size G))) _
      (all_i (row_kept G H l) (upto (size G)) (λ g m. all_i (λ (h : ℕ). imp (has l g h) (ltb h (size H) && keeps G H (has l) g h)) (upto 256) (λ h n. imp_i (has l g h) _ (λ t. pair g h (upto_e (size G) g m, upto_e 256 h n, t)))))
      (all_i (entry_covered G H l) (upto (size G)) (λ g m. imp_i (node G g).entry _ (λ s.
      let a = c.covers g (upto_e (size G) g m) s in
      any_i (λ (h : ℕ). (node H h).entry && has l g h) (upto (size H)) a.0 (upto_i (size H) a.0 a.1) (and_i (node H a.0).entry (has l g a.0) a.2 a.3.2))))
    where
      pair : (g h : ℕ) → Says G l g h → T (ltb h (size H) && keeps G H (has l) g h)
      pair g h x =
          and_i (ltb h (size H)) _ (lt→ltb h (size H) (c.is_simulation.of_second g h x)) (keeps_i G H (has l) g h (record {
            same_method = c.is_simulation.same_method g h x;
            same_ret = c.is_simulation.same_ret g h x;
            matched = λ e m p. let a = c.is_simulation.matched g h x e m p in (a.0, a.1, a.2, a.3, a.4.2);
          }))

-- what compare writes has bit h of node g's line where the largest simulation relates the two
pub bit_says : (G H : Graph) (g h : ℕ) → g < size G → h < max_nodes → has (relation_bytes G H) g h ≡ related G H g h
bit_says G H g h hg hh = ap (λ (n : ℕ). eqb n 1) (relation_bit G H g h hg hh) ∙ flag (related G H g h)
  where
    flag : (b : Bool) → eqb (one b) 1 ≡ b
    flag true = refl
    flag false = refl

-- under "yes" it is a simulation that covers every entry
module _ (G H : Graph) (fg : Flow G) (fh : Flow H) (few : size H < 257) where
  pub written_covering : T (simulates G H) → Covering G H (relation_bytes G H)
  written_covering t = record {
    is_simulation = record {
      of_first = λ g h x. x.0;
      of_second = λ g h x. s.of_second g h (down g h x);
      same_method = λ g h x. s.same_method g h (down g h x);
      same_ret = λ g h x. s.same_ret g h (down g h x);
      matched = λ g h x e m p.
          let a = s.matched g h (down g h x) e m p in
          (a.0, a.1, a.2, a.3, up e.to a.0.to (fg.to_node e m) (fh.to_node a.0 a.1) a.4);
    };
    covers = λ g hg e.
        let a = covered_e G H fg fh g ((simulates_covers G H).0 t g hg e) in
        let k = s.of_second g a.0 a.2 in
        (a.0, k, a.1, up g a.0 hg k a.2);
  }
    where
      s : Simulation G H (λ g h. T (related G H g h))
      s = related_simulation G H fg fh

      down : (g h : ℕ) → Says G (relation_bytes G H) g h → T (related G H g h)
      down g h x = subst T (bit_says G H g h x.0 x.1) x.2

      up : (g h : ℕ) → g < size G → h < size H → T (related G H g h) → Says G (relation_bytes G H) g h
      up g h hg hh r = let k : h < max_nodes = omega arith in (hg, k, subst T (sym (bit_says G H g h hg k)) r)
