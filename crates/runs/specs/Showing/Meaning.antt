-- What the part shown and the value of the companion call mean. The only hypotheses are what the contracts of `show` and `show_refusal` state.
use Rattle.std.specs.Prelude.{◌≡◌, refl, ◌↔◌, cond, List, [], ℕ, ◌<◌, eqb, get_or, Ok, Err}
use Rattle.std.proofs.Common.{ap, ◌∙◌}
use Rattle.std.proofs.Math.Dec.{lit<}
use Rattle.files.specs.Decode.{decode_graph, node_rec}
use Rattle.files.specs.Graph.{size, node}
use Rattle.files.specs.Outcome.{Outcome, Answer, answer, written_of, out_after, refusal_at, NoneOf, FirstOf}
use Rattle.files.specs.Outcome.Meaning.{Decided, Refuses, Enum, itself, heard_itself, only_verdict, said_iff, refuses_by}
use Rattle.files.specs.Record.{six}
use Rattle.files.specs.declared.record.Limits.{Limits}
use Rattle.files.specs.declared.refusal.Refusal.{Refusal}
use Rattle.files.specs.Join.{join}
use Rattle.runs.specs.Showing.{Shown, Part, shown_answer, show_said, show_checks, show_lines, shown}
use Rattle.runs.specs.Showing.Laws.{show_refused, show_accepted, show_says}

-- the case of a number and its values
abbrev pub shown_of : Answer → Shown
shown_of a = cond (eqb a.verdict 1) Part (Err (refusal_at a.number (get_or a.values 0 0) (get_or a.values 1 0)))

pub shown_back : (r : Shown) → shown_of (shown_answer r) ≡ r
shown_back (Ok u) = refl
shown_back (Err x) = refl

abbrev pub shown_enum : Enum Shown
shown_enum = record { code = shown_answer; back = shown_of; back_code = shown_back; refused = Err; code_refused = λ x. refl }

-- "The record of a joined node is shown in the file it came from, as six bytes of that file."
pub record PartShown (g1 g2 : List ℕ) (number : ℕ) (part : List ℕ) : Type 0 where
  pub in_range : number < size (join (decode_graph g1) (decode_graph g2))
  pub part_is : part ≡ six (node_rec (node (join (decode_graph g1) (decode_graph g2)) number))

-- `Part` is returned exactly where nothing is refused, and then the part is the node's record; "the part is then empty and a companion call gives the refusal"
pub record ShowMeans (L : Limits) (g1 g2 : List ℕ) (number : ℕ) (part : List ℕ) (r : Shown) : Type 0 where
  pub accepted_iff : ((x : Refusal) → r ≡ Err x → ⊥) ↔ NoneOf (show_lines L g1 g2 number)
  pub part_iff : (r ≡ Part) ↔ NoneOf (show_lines L g1 g2 number)
  pub refused_iff : (x : Refusal) → (r ≡ Err x) ↔ FirstOf (show_lines L g1 g2 number) x.number x.file x.«record»
  pub shows : r ≡ Part → PartShown g1 g2 number part
  pub empty : (x : Refusal) → r ≡ Err x → part ≡ []

module _ (L : Limits) (g1 g2 : List ℕ) (number : ℕ) where
  pub show_decided : Decided (shown L g1 g2 number) (show_said L g1 g2 number) (show_lines L g1 g2 number)
  unfolding shown
  show_decided = record {
    refused = show_refused L g1 g2 number;
    accepted = show_accepted L g1 g2 number;
    only = only_verdict (show_checks L g1 g2 number) (show_said L g1 g2 number);
    numbered = lit< tt;
  }

  -- the part alone: the record where nothing is refused, and nothing where something is
  pub part_shown : (part : List ℕ) → part ≡ written_of (shown L g1 g2 number) → NoneOf (show_lines L g1 g2 number) → PartShown g1 g2 number part
  part_shown part e t =
      let q = (show_accepted L g1 g2 number).1 t in
      let s = show_says L g1 g2 number (show_said L g1 g2 number) q in
      record { in_range = s.in_range; part_is = e ∙ ap (λ (o : Outcome). written_of o) q ∙ s.part_is }

  pub part_empty : (part : List ℕ) → part ≡ written_of (shown L g1 g2 number) → (n f i : ℕ) → FirstOf (show_lines L g1 g2 number) n f i → part ≡ []
  part_empty part e n f i t = e ∙ ap (λ (o : Outcome). written_of o) ((show_refused L g1 g2 number n f i).1 t)

  module _ (part : List ℕ) (r : Shown) (shows : part ≡ written_of (shown L g1 g2 number)) (tells : shown_answer r ≡ answer (shown L g1 g2 number)) where
    is_part : (r ≡ Part) ↔ (NoneOf (show_lines L g1 g2 number) × ((show_said L g1 g2 number).verdict ≡ 1) × ((show_said L g1 g2 number).values ≡ []))
    is_part =
        said_iff shown_enum itself heard_itself (shown L g1 g2 number) (show_said L g1 g2 number) (show_lines L g1 g2 number) show_decided r tells Part 1 [] (lit< tt) refl

    refusing : Refuses Err (show_lines L g1 g2 number) [] (out_after (shown L g1 g2 number) []) r
    refusing =
        refuses_by shown_enum itself heard_itself (shown L g1 g2 number) (show_said L g1 g2 number) (show_lines L g1 g2 number) show_decided r tells
        [] (out_after (shown L g1 g2 number) []) refl

    -- The returned values, from what the contracts state of them.
    pub show_means : ShowMeans L g1 g2 number part r
    show_means = record {
      accepted_iff = refusing.accepted_iff;
      part_iff = (λ q. (is_part.0 q).0, λ t. is_part.1 (t, refl, refl));
      refused_iff = refusing.refused_iff;
      shows = λ q. part_shown part shows (is_part.0 q).0;
      empty = λ x q. part_empty part shows x.number x.file x.«record» ((refusing.refused_iff x).0 q);
    }
