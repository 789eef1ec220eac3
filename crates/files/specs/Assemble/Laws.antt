-- Assembling is refused by the first line of its published order that applies, and otherwise says what `Assembles` says. A file with a delivery more says what the standing
-- deliveries alone say, in any order.
use Rattle.std.specs.Prelude.{◌≡◌, refl, ◌↔◌, Bool, true, false, ℕ, ◌≤◌, T}
use Rattle.std.proofs.Common.{sym, ap, ap₂, subst, ◌∙◌, arith}
use mathlib.Core.List.{List, [], ◌∷◌, ◌++◌, Memᴰ}
use Rattle.std.proofs.Math.Option.{none}
use Rattle.files.specs.Assemble.{delivery_checks, delivery_lines, standing_graph, standing_checks, standing_lines, Taken, assemble_said, assemble_checks, assemble_lines, assembled_outcome, Assembles}
use Rattle.files.specs.Basics.Permuted.{Permuted, permuted_e, permuted_back}
use Rattle.files.specs.Decode.{decode_graph, graph_bytes}
use Rattle.files.specs.Decode.Written.{decode_bytes}
use Rattle.files.specs.Deliveries.{Delivery, delivery_findings, delivery_refusal, Delivers, decode_deliveries, deliveries_bytes, standing, assembled, repeated, Repeated, block}
use Rattle.files.specs.Deliveries.Assembled.{own_nodes, methods_ascend, assembled_accepted}
use Rattle.files.specs.Deliveries.Blocks.{block_is, others_kept}
use Rattle.files.specs.Deliveries.Decoded.{decoded_supplied}
use Rattle.files.specs.Deliveries.Refused.{delivery_found, delivery_numbers, delivery_accepted_iff, delivery_eight, delivery_refusal_is}
use Rattle.files.specs.Deliveries.Repeats.{says_repeated, repeated_permuted, standing_repeats_not, assembled_order}
use Rattle.files.specs.Deliveries.Standing.{of_standing, stands_e}
use Rattle.files.specs.Deliveries.Written.{Opened, decode_written, written_accepted, behind_accepted, decode_behind}
use Rattle.files.specs.Graph.{Graph}
use Rattle.files.specs.Outcome.{Said, says, refuses, refusal_at, Check, whole_check, out_check, answered, Lines, numbered_lines, NoneOf, FirstOf, Matches, published, too_large, TooLarge, graph_said}
use Rattle.files.specs.Outcome.Calls as calls
use Rattle.files.specs.Outcome.Laws.{numbered_match, numbered_none_e, whole_match, out_match, whole_none, refused_by, accepted_by, verdict_is, says_too_large, numbered_answers}
use Rattle.files.specs.Refusal.{graph, refusal}
use Rattle.files.specs.declared.record.Limits.{Limits}

-- ---- a file of deliveries, among the checks of any call

module _ (L : Limits) (f : ℕ) (l : List ℕ) where
  pub delivery_match : (cs : List Check) (ls : Lines) → Matches cs ls → Matches (delivery_checks L f l cs) (delivery_lines L f l ls)
  delivery_match cs ls m =
      subst (λ (n : ℕ). Matches (delivery_checks L f l cs) (numbered_lines (Delivers L l) f 1 n ls)) (delivery_eight L l)
      (numbered_match (Delivers L l) f 1 (delivery_findings L l) cs ls (delivery_found L l) m)

  -- where its lines do not apply it is accepted, and the other way round
  pub delivery_accepted : (ls : Lines) → NoneOf (delivery_lines L f l ls) → (delivery_refusal L l ≡ none) × NoneOf ls
  delivery_accepted ls a =
      let r = numbered_none_e (Delivers L l) f 1 8 ls a in
      ((delivery_accepted_iff L l).1 (λ n i x. let b = delivery_numbers L l n i x in r.0 n i b.0 (omega (arith, b.1)) x), r.1)

  -- an accepted file passes on to the next check
  pub delivery_passes : (cs : List Check) (s : Said) → delivery_refusal L l ≡ none → answered (delivery_checks L f l cs) s ≡ answered cs s
  delivery_passes cs s e = numbered_answers 1 f (delivery_findings L l) cs s none (sym (delivery_refusal_is L l) ∙ e)

module _ (L : Limits) (l : List ℕ) where
  pub standing_match : (cs : List Check) (ls : Lines) → Matches cs ls → Matches (standing_checks L l cs) (standing_lines L l ls)
  standing_match cs ls m = whole_match 14 _ _ (says_repeated (decode_deliveries l)) _ _ (whole_match 11 _ _ (says_too_large L (standing_graph l)) _ _ m)

  pub standing_none : (ls : Lines) → NoneOf (standing_lines L l ls) → (Repeated (decode_deliveries l) → ⊥) × (TooLarge L (standing_graph l) → ⊥) × NoneOf ls
  standing_none ls a = let b = whole_none 14 _ _ a in let c = whole_none 11 _ _ b.1 in (b.0, c.0, c.1)

-- ---- the call

module _ (L : Limits) (l : List ℕ) (out : ℕ) where
  abbrev said : Said
  said = assemble_said L l out

  assemble_match : Matches (assemble_checks L l out) (assemble_lines L l out)
  assemble_match = delivery_match L 1 l _ _ (standing_match L l _ _ (out_match out said))

  -- the lines stand in the published order
  pub assemble_order : published (assemble_lines L l out) ≡ true
  assemble_order = refl

  -- and are the call's row of the table
  pub assemble_row : calls.Row L calls.assemble (l ∷ []) (assemble_lines L l out)
  assemble_row = record { numbers_are = refl; files_are = refl }

  -- refused, by number, file and record, exactly where that comes first in the published order
  pub assemble_refused : (n f i : ℕ) → (assembled_outcome L l out ≡ refuses (refusal_at n f i)) ↔ FirstOf (assemble_lines L l out) n f i
  unfolding assembled_outcome
  assemble_refused = refused_by _ _ assemble_match said

  -- accepted exactly where nothing applies
  pub assemble_accepted : (assembled_outcome L l out ≡ says said) ↔ NoneOf (assemble_lines L l out)
  unfolding assembled_outcome
  assemble_accepted = accepted_by _ _ assemble_match said

  -- what is said is said of an accepted file, and its graph is within the limits
  pub assemble_files : (s : Said) → assembled_outcome L l out ≡ says s → (s ≡ said) × Taken L l × (TooLarge L (standing_graph l) → ⊥)
  unfolding assembled_outcome
  assemble_files s e =
      let a = verdict_is _ _ assemble_match said s e in
      let b = delivery_accepted L 1 l _ a.1 in
      let c = standing_none L l _ b.1 in
      (a.0, record { no_number = b.0; no_repeat = c.0 }, c.1)

  -- Whatever the bytes and the length: what assembling says where it is not refused.
  pub assemble_says : (s : Said) → assembled_outcome L l out ≡ says s → Assembles L (decode_deliveries l) s
  assemble_says s e =
      let a = assemble_files s e in
      let good = decoded_supplied L l a.1.no_number in
      let G = standing_graph l in
      let w : s.written ≡ graph_bytes G = ap (λ (x : Said). x.written) a.0 in
      record {
        verdict_one = ap (λ (x : Said). x.verdict) a.0;
        accepted = ap (refusal L graph) w ∙ assembled_accepted L (decode_deliveries l) (λ d m. (good d m).body_filed) a.2;
        is_assembled = ap decode_graph w ∙ decode_bytes G;
        counted = ap (λ (x : Said). x.values) a.0;
        ascends = methods_ascend (decode_deliveries l) (λ d m. own_nodes L d (good d m));
        by_method = block_is (decode_deliveries l) (λ d m. own_nodes L d (good d m)) (λ d m. (good d m).body_filed.flow);
      }

-- ---- "graph and judgement equal those of the standing deliveries alone in any order"

-- the bytes of the standing deliveries of an accepted file, in any order: accepted, with the same graph, and 14 does not apply
pub record Alone (L : Limits) (l es : List ℕ) : Type 0 where
  pub is_accepted : delivery_refusal L es ≡ none
  pub repeats_not : repeated (decode_deliveries es) ≡ repeated (decode_deliveries l)
  pub same_graph : standing_graph es ≡ standing_graph l

off : (b : Bool) → (T b → ⊥) → b ≡ false
off true f = absurd (f tt)
off false f = refl

module _ (L : Limits) (l : List ℕ) (taken : Taken L l) (es : List Delivery) (order : Permuted (standing (decode_deliveries l)) es) where
  from_standing : (d : Delivery) → Memᴰ d es → Memᴰ d (decode_deliveries l)
  from_standing d m =
      let k = permuted_e es (standing (decode_deliveries l)) (permuted_back (standing (decode_deliveries l)) es order) d m in
      (stands_e (decode_deliveries l) d.method d (of_standing (decode_deliveries l) d k).2).one_of

  pub alone : Alone L l (deliveries_bytes es)
  alone = record {
    is_accepted = written_accepted L es (λ d m. decoded_supplied L l taken.no_number d (from_standing d m));
    repeats_not = ap repeated (decode_written es)
        ∙ sym (repeated_permuted (standing (decode_deliveries l)) es order)
        ∙ standing_repeats_not (decode_deliveries l)
        ∙ sym (off (repeated (decode_deliveries l)) (λ t. taken.no_repeat ((says_repeated (decode_deliveries l)).say t)));
    same_graph = ap assembled (decode_written es) ∙ assembled_order (decode_deliveries l) es order;
  }

-- of two files like that, all that follows is the same: any checks and verdict that are told by the graph, also with checks of other files between
pub alone_same : (L : Limits) (l es : List ℕ) → delivery_refusal L l ≡ none → Alone L l es → (f : ℕ) (between : List Check → List Check) (cs : Graph → List Check) (s : Graph → Said)
    → answered (delivery_checks L f es (between (standing_checks L es (cs (standing_graph es))))) (s (standing_graph es))
    ≡ answered (delivery_checks L f l (between (standing_checks L l (cs (standing_graph l))))) (s (standing_graph l))
alone_same L l es e a f between cs s =
    delivery_passes L f es (between (standing_checks L es (cs (standing_graph es)))) (s (standing_graph es)) a.is_accepted
    ∙ ap₂ (λ (b : Bool) (G : Graph). answered (between (whole_check 14 b (whole_check 11 (too_large L G) (cs G)))) (s G)) a.repeats_not a.same_graph
    ∙ sym (delivery_passes L f l (between (standing_checks L l (cs (standing_graph l)))) (s (standing_graph l)) e)

-- assembling says the same of an accepted file and of its standing deliveries alone, in any order, for every output length
pub assembled_alone : (L : Limits) (l : List ℕ) → Taken L l → (es : List Delivery) → Permuted (standing (decode_deliveries l)) es → (out : ℕ)
    → assembled_outcome L (deliveries_bytes es) out ≡ assembled_outcome L l out
unfolding assembled_outcome
assembled_alone L l taken es order out =
    alone_same L l (deliveries_bytes es) taken.no_number (alone L l taken es order) 1 (λ cs. cs) (λ G. out_check out (graph_said G [])) (λ G. graph_said G [])

-- ---- a delivery appended to an accepted file

-- Bytes that begin with an opening, appended to an accepted file, leave it accepted: it then holds its deliveries and those of the bytes. One delivery is such bytes, and so are several.
module _ (L : Limits) (l d : List ℕ) (before : Taken L l) (begins : Opened d) (after : Taken L (l ++ d)) where
  pub appended_holds : decode_deliveries (l ++ d) ≡ decode_deliveries l ++ decode_deliveries d
  appended_holds = decode_behind L l d before.no_number (behind_accepted L l d before.no_number begins after.no_number)

  pub appended_order : (es : List Delivery) → Permuted (standing (decode_deliveries l ++ decode_deliveries d)) es → Permuted (standing (decode_deliveries (l ++ d))) es
  appended_order es order = subst (λ (ds : List Delivery). Permuted (standing ds) es) (sym appended_holds) order

  -- "When a delivery appended to an accepted file leaves it accepted, graph .. equal those of the standing deliveries alone in any order"
  pub appended : (es : List Delivery) → Permuted (standing (decode_deliveries l ++ decode_deliveries d)) es → (out : ℕ) → assembled_outcome L (deliveries_bytes es) out ≡ assembled_outcome L (l ++ d) out
  appended es order out = assembled_alone L (l ++ d) after es (appended_order es order) out

  -- "and the nodes of other methods keep their contents"
  pub appended_keeps : (e : Delivery) → decode_deliveries d ≡ e ∷ [] → (m : ℕ) → 1 ≤ m → m ≤ 8 → (e.method ≡ m → ⊥) → block m (standing_graph (l ++ d)) ≡ block m (standing_graph l)
  appended_keeps e one m h k f =
      let q : decode_deliveries (l ++ d) ≡ decode_deliveries l ++ e ∷ [] = appended_holds ∙ ap (λ (ds : List Delivery). decode_deliveries l ++ ds) one in
      ap (λ (ds : List Delivery). block m (assembled ds)) q
      ∙ others_kept L (decode_deliveries l) e (λ x i. decoded_supplied L (l ++ d) after.no_number x (subst (Memᴰ x) (sym q) i)) m h k f
