-- For the call: what an accepted property allows the search, when a model is too large, and the outcome of one that is counted and written.
use mathlib.Core.Path.{◌≡◌, refl, sym, ap, ◌∙◌}
use mathlib.Core.Logic.{◌⊎◌, inl, inr}
use mathlib.Core.List.{List, [], ◌∷◌, ◌++◌}
use mathlib.Core.Option.{none}
use Prim.Native.Nat.{ℕ, zero, suc, ◌+◌, ◌*◌, ◌≤◌, ◌<◌}
use native.Mathlib.Omega.{arith}
use lib.ListN.{length, drop}
use Rattle.files.specs.Access.{PropertyFile}
use Rattle.files.specs.Decode.{decode_interface, decode_property, graph_bytes}
use Rattle.files.specs.Decode.Properties.{decoded_rows, decoded_property}
use Rattle.files.specs.Graph.{Graph}
use Rattle.files.specs.Interface.{Interface}
use Rattle.files.specs.Outcome.{Answers, TooLarge, refusal_at, refused_answer, verdict_answer}
use Rattle.files.specs.Outcome.Ends.{answers_large, answers_short, answers_written}
use Rattle.files.specs.Places.{record_len}
use Rattle.files.specs.Property.{Row, Property}
use Rattle.files.specs.Record.{count}
use Rattle.files.specs.Refusal.{property, refusal}
use Rattle.files.specs.declared.record.Limits.{Limits}
use Rattle.files.specs.declared.refusal.Refusal.{Refusal}
use Rattle.maximal.specs.Places.{max_followers, max_states}
use Rattle.maximal.specs.declared.places.Scope.{Scope}
use Rattle.maximal.specs.Charting.{Scoped, Crowded, Arranged}
use Rattle.maximal.specs.Charting.Files.{file_named}
use Rattle.maximal.specs.Charting.States.{crowded_e}
use Rattle.maximal.specs.Collected.Search.{or_count_is}
use Rattle.maximal.specs.Listing.{tally_upto}
use Rattle.maximal.specs.Listing.Laws.{total, tally_from_le, upto_is}
use Rattle.maximal.proofs.Theorems.Listing.Laws.{model_nodes_many, model_edges_many, model_length}
use Rattle.maximal.specs.Model.{model}
use Rattle.maximal.specs.Model.Computed.{model_size}
use Rattle.maximal.specs.Modelling.{from_size, Bounded}

-- ---- accepted files

-- the rows of an accepted property, and as many or-rows and states as the limits allow
pub scope_of : (L : Limits) (p : List ℕ) → Bounded L → refusal L property p ≡ none → Scoped (record { rows = count p; ors = L.ors; states = L.nodes }) p
scope_of L p b a =
    let f = decoded_property L p a in
    record {
      file = record { limits = L; accepted = a };
      rows_are = refl;
      few_rows = omega (arith, decoded_rows L p a, f.few_rows, b.rows_fit);
      enough_ors = omega (arith, or_count_is (decode_property p), f.few_ors);
      few_ors = b.ors_fit;
      few_states = b.nodes_fit;
    }

-- ---- the model

total_few : (w : List ℕ) (c n : ℕ) → c ≤ max_states → total w c n ≤ max_followers * n
total_few w c zero h = omega arith
total_few w c (suc n) h = omega (arith, total_few w c n h, tally_from_le w c n 9 h)

-- what is counted fits a length
pub edges_few : (w : List ℕ) (c limit n : ℕ) → c ≤ max_states → n ≡ tally_upto w c limit c → n ≤ max_followers * c
edges_few w c limit n h e = go (upto_is w c limit c)
  where
    go : (tally_upto w c limit c ≡ total w c c) ⊎ ((limit < tally_upto w c limit c) × (tally_upto w c limit c ≤ total w c c)) → n ≤ max_followers * c
    go (inl d) = omega (arith, e, d, total_few w c c h)
    go (inr d) = omega (arith, e, d.1, total_few w c c h)

module _ (L : Limits) (i p : List ℕ) (f : PropertyFile p) (s : Scope) (states_are : s.states ≡ L.nodes) (out : List ℕ) where
  abbrev I : Interface
  I = decode_interface i

  abbrev P : List Row
  P = decode_property p

  abbrev G : Graph
  G = model I P

  wf : Property P
  wf = file_named p f

  -- too many states
  pub answers_crowded : (r : Refusal) → Crowded I P s.states → r ≡ refusal_at 11 0 0 → Answers (from_size L i p (length out)) out out (refused_answer r)
  answers_crowded r h e = answers_large L G [] out r (inl (omega (arith, crowded_e I P s.states h, model_size I P wf, states_are))) e

  module _ (c : ℕ) (within : c ≤ s.states) (w : List ℕ) (x : Arranged I P c w) (n : ℕ) (counted : n ≡ tally_upto w c L.edges c) where
    -- too many edges
    pub answers_edges : (r : Refusal) → L.edges < n → r ≡ refusal_at 11 0 0 → Answers (from_size L i p (length out)) out out (refused_answer r)
    answers_edges r h e = answers_large L G [] out r (inr (go (upto_is w c L.edges c))) e
      where
        go : (tally_upto w c L.edges c ≡ total w c c) ⊎ ((L.edges < tally_upto w c L.edges c) × (tally_upto w c L.edges c ≤ total w c c)) → L.edges < length G.edges
        go (inl d) = omega (arith, counted, d, h, model_edges_many I P wf c w x)
        go (inr d) = omega (arith, d.0, d.1, model_edges_many I P wf c w x)

    module _ (few : n ≤ L.edges) where
      pub edges_counted : n ≡ length G.edges
      edges_counted = go (upto_is w c L.edges c)
        where
          go : (tally_upto w c L.edges c ≡ total w c c) ⊎ ((L.edges < tally_upto w c L.edges c) × (tally_upto w c L.edges c ≤ total w c c)) → n ≡ length G.edges
          go (inl d) = counted ∙ d ∙ sym (model_edges_many I P wf c w x)
          go (inr d) = absurd (omega (arith, counted, few, d.0))

      small : TooLarge L G → ⊥
      small (inl h) = omega (arith, h, model_nodes_many I P wf c w x, within, states_are)
      small (inr h) = omega (arith, h, edges_counted, few)

      long : length (graph_bytes G) ≡ record_len * (c + n)
      long = model_length I P wf c w x ∙ ap (λ (m : ℕ). record_len * (c + m)) (sym edges_counted)

      pub answers_full : (r : Refusal) → length out < record_len * (c + n) → r ≡ refusal_at 12 0 0 → Answers (from_size L i p (length out)) out out (refused_answer r)
      answers_full r h e = answers_short L G [] out small r (omega (arith, long, h)) e

      pub answers_model : (out' : List ℕ) → record_len * (c + n) ≤ length out → out' ≡ graph_bytes G ++ drop (length (graph_bytes G)) out → Answers (from_size L i p (length out)) out out' (verdict_answer 1 (c ∷ n ∷ []))
      answers_model out' h e = answers_written L G [] out small out' c n (omega (arith, long, h)) e (sym (model_nodes_many I P wf c w x)) edges_counted
