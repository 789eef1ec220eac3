-- An accepted graph file is the bytes of its graph: no two accepted files hold one graph. Assumes nothing.
use Rattle.std.specs.Prelude.{◌≡◌, refl, ℕ, zero, suc, ◌+◌, ◌-◌, ◌*◌, ◌≤◌, ◌<◌, eqb, length, take}
use Rattle.std.proofs.Common.{sym, subst, ◌∙◌, inl, inr, add-zero, arith, take_at, drop_at, take_all}
use Rattle.std.proofs.Math.Path.{ap, ap₂}
use mathlib.Core.List.{List, [], ◌∷◌, ◌++◌, map, append-nil}
use Rattle.std.proofs.Math.Option.{none}
use Rattle.std.proofs.Math.Nat.{zero-add}
use Rattle.std.proofs.lemmas.List.{length-map}
use Rattle.files.specs.Basics.Tables.{table}
use Rattle.files.specs.Basics.Tests.{one, at_most}
use Rattle.files.specs.Decode.{to_node, to_edge, decode_graph, node_rec, edge_rec, graph_recs, graph_bytes}
use Rattle.files.specs.Decode.Graphs.{is_node, is_edge, few, decoded_size, decoded_edges, decoded_node}
use Rattle.files.specs.Decode.Written.{skip_rec, length_write, graph_bytes_is}
use Rattle.files.specs.Basics.Says.{says_eq, says_sure}
use Rattle.files.specs.Decode.AnyFile.{none_applies, whole_file}
use Rattle.files.specs.Places.{record_len}
use Rattle.files.specs.Record.{record_from, record_at, count, six, write, part}
use Rattle.files.specs.Refusal.{graph, nodes_of, refusal}
use Rattle.files.specs.declared.record.Limits.{Limits}
use Rattle.files.specs.declared.record.Record.{Record}
use Rattle.files.specs.Record.Laws.{part_length, part_record}
use Rattle.files.specs.Graph.{size, node}

module _ {A : Type 0} where
  pub table_same : (f g : ℕ → A) (a n : ℕ) → ((i : ℕ) → a ≤ i → i < a + n → f i ≡ g i) → table f a n ≡ table g a n
  table_same f g a zero h = refl
  table_same f g a (suc n) h = ap₂ ◌∷◌ (h a (omega arith) (omega arith)) (table_same f g (suc a) n (λ i x y. h i (omega arith) (omega arith)))

  table_shift : (f : ℕ → A) (a n : ℕ) → table f (suc a) n ≡ table (λ i. f (suc i)) a n
  table_shift f a zero = refl
  table_shift f a (suc n) = ap (λ (xs : List A). f (suc a) ∷ xs) (table_shift f (suc a) n)

  table_append : (f : ℕ → A) (a n m : ℕ) → table f a n ++ table f (a + n) m ≡ table f a (n + m)
  table_append f a zero m = ap₂ (table f) (add-zero a) (sym (zero-add m))
  table_append f a (suc n) m =
      let e : a + suc n ≡ suc a + n = omega arith in
      let c : suc n + m ≡ suc (n + m) = omega arith in
      ap (λ (k : ℕ). table f a (suc n) ++ table f k m) e ∙ ap (λ (xs : List A). f a ∷ xs) (table_append f (suc a) n m) ∙ sym (ap (table f a) c)

pub map_table : {A B : Type 0} (g : A → B) (f : ℕ → A) (a n : ℕ) → map g (table f a n) ≡ table (λ i. g (f i)) a n
map_table g f a zero = refl
map_table g f a (suc n) = ap (λ xs. g (f a) ∷ xs) (map_table g f (suc a) n)

-- whole records are the bytes
pub write_recs : (n : ℕ) (l : List ℕ) → length l ≡ record_len * n → write (table (record_at l) 0 n) ≡ l
write_recs zero [] e = refl
write_recs zero (a ∷ l) e = absurd (omega arith)
write_recs (suc n) [] e = absurd (omega arith)
write_recs (suc n) (a ∷ []) e = absurd (omega arith)
write_recs (suc n) (a ∷ b ∷ []) e = absurd (omega arith)
write_recs (suc n) (a ∷ b ∷ c ∷ []) e = absurd (omega arith)
write_recs (suc n) (a ∷ b ∷ c ∷ d ∷ []) e = absurd (omega arith)
write_recs (suc n) (a ∷ b ∷ c ∷ d ∷ f ∷ []) e = absurd (omega arith)
write_recs (suc n) (a ∷ b ∷ c ∷ d ∷ f ∷ g ∷ l) e =
    ap (λ (rs : List Record). six r ++ write rs) rest ∙ ap (λ (xs : List ℕ). six r ++ xs) (write_recs n l (omega arith))
  where
    r : Record
    r = record { kind = a; first = b; second = c; third = d; fourth = f; fifth = g }

    step : (i : ℕ) → record_at (a ∷ b ∷ c ∷ d ∷ f ∷ g ∷ l) (suc i) ≡ record_at l i
    step i =
        let q : record_len * suc i ≡ 6 + record_len * i = omega arith in
        ap (record_from (a ∷ b ∷ c ∷ d ∷ f ∷ g ∷ l)) q ∙ skip_rec (record { kind = a; first = b; second = c; third = d; fourth = f; fifth = g }) l (record_len * i)

    rest : table (record_at (a ∷ b ∷ c ∷ d ∷ f ∷ g ∷ l)) 1 n ≡ table (record_at l) 0 n
    rest = table_shift (record_at (a ∷ b ∷ c ∷ d ∷ f ∷ g ∷ l)) 0 n ∙ table_same (λ i. record_at (a ∷ b ∷ c ∷ d ∷ f ∷ g ∷ l) (suc i)) (record_at l) 0 n (λ i x y. step i)

-- ---- a record of an accepted file is that of its value

flag_back : (x : ℕ) → x ≤ 1 → one (eqb x 1) ≡ x
flag_back zero h = refl
flag_back (suc zero) h = refl
flag_back (suc (suc x)) h = absurd (omega arith)

node_same : (r : Record) → r.kind ≡ 1 → r.second ≤ 1 → r.third ≤ 1 → r.fourth ≡ 0 → r.fifth ≡ 0 → node_rec (to_node r) ≡ r
node_same r k a b c d = λ i. record { kind = sym k i; first = r.first; second = flag_back r.second a i; third = flag_back r.third b i; fourth = sym c i; fifth = sym d i }

edge_same : (r : Record) → r.kind ≡ 2 → r.fourth ≡ 0 → r.fifth ≡ 0 → edge_rec (to_edge r) ≡ r
edge_same r k c d = λ i. record { kind = sym k i; first = r.first; second = r.second; third = r.third; fourth = sym c i; fifth = sym d i }

pub unused : (x : ℕ) → ((x ≡ 0 → ⊥) → ⊥) → x ≡ 0
unused x f = says_sure (says_eq x 0) f

-- one record of a file, as bytes
pub part_one : (l : List ℕ) (i : ℕ) → i < count l → part l i 1 ≡ six (record_at l i)
part_one l i h =
    let n : length (part l i 1) ≡ record_len * 1 = part_length l i 1 (omega arith) in
    let e : i + 0 ≡ i = add-zero i in
    sym (write_recs 1 (part l i 1) n) ∙ append-nil (six (record_at (part l i 1) 0)) ∙ ap six (part_record l i 1 0 (omega arith) (omega arith) ∙ ap (record_at l) e)

module _ (L : Limits) (l : List ℕ) (accepted : refusal L graph l ≡ none) where
  node_at : (i : ℕ) → i < nodes_of l → node_rec (to_node (record_at l i)) ≡ record_at l i
  node_at i h =
      let n : i < count l = omega (arith, few L l accepted) in
      let k = is_node L l accepted i h in
      node_same (record_at l i) k (at_most _ 1 (λ x. none_applies L graph l accepted 3 i (n, inl (k, inr (inl x))))) (at_most _ 1 (λ x. none_applies L graph l accepted 3 i (n, inl (k, inr (inr (inl x))))))
      (unused _ (λ x. none_applies L graph l accepted 3 i (n, inl (k, inr (inr (inr (inl x))))))) (unused _ (λ x. none_applies L graph l accepted 3 i (n, inl (k, inr (inr (inr (inr x)))))))

  edge_at : (i : ℕ) → nodes_of l ≤ i → i < count l → edge_rec (to_edge (record_at l i)) ≡ record_at l i
  edge_at i h n =
      let k = is_edge L l accepted i h n in
      edge_same (record_at l i) k (unused _ (λ x. none_applies L graph l accepted 3 i (n, inr (inl (k, inr (inl x)))))) (unused _ (λ x. none_applies L graph l accepted 3 i (n, inr (inl (k, inr (inr x))))))

  recs_same : graph_recs (decode_graph l) ≡ table (record_at l) 0 (count l)
  unfolding decode_graph
  recs_same =
      let a : 0 + nodes_of l ≡ nodes_of l = zero-add (nodes_of l) in
      let b : nodes_of l + (count l - nodes_of l) ≡ count l = omega (arith, few L l accepted) in
      ap₂ ◌++◌
      (map_table node_rec (λ i. to_node (record_at l i)) 0 (nodes_of l) ∙ table_same (λ i. node_rec (to_node (record_at l i))) (record_at l) 0 (nodes_of l) (λ i x y. node_at i (omega arith)))
      (map_table edge_rec (λ i. to_edge (record_at l i)) (nodes_of l) (count l - nodes_of l)
      ∙ table_same (λ i. edge_rec (to_edge (record_at l i))) (record_at l) (nodes_of l) (count l - nodes_of l) (λ i x y. edge_at i x (omega (arith, few L l accepted))))
      ∙ ap (λ (k : ℕ). table (record_at l) 0 (nodes_of l) ++ table (record_at l) k (count l - nodes_of l)) (sym a)
      ∙ table_append (record_at l) 0 (nodes_of l) (count l - nodes_of l) ∙ ap (table (record_at l) 0) b

  pub bytes_decode : graph_bytes (decode_graph l) ≡ l
  unfolding graph_bytes
  bytes_decode = ap write recs_same ∙ write_recs (count l) l (whole_file L graph l accepted)

  -- the nodes' bytes come first, the edges' after them
  abbrev node_part : List ℕ
  node_part = write (map node_rec (decode_graph l).nodes)

  abbrev edge_part : List ℕ
  edge_part = write (map edge_rec (decode_graph l).edges)

  both_parts : l ≡ node_part ++ edge_part
  both_parts = sym bytes_decode ∙ graph_bytes_is (decode_graph l)

  node_part_length : length node_part ≡ record_len * nodes_of l
  node_part_length = omega (arith, length_write (map node_rec (decode_graph l).nodes), length-map (decode_graph l).nodes node_rec, decoded_size L l accepted)

  pub nodes_written : take (record_len * nodes_of l) l ≡ write (map node_rec (decode_graph l).nodes)
  nodes_written = ap (take (record_len * nodes_of l)) both_parts ∙ take_at node_part edge_part (record_len * nodes_of l) node_part_length

  pub edges_written : part l (nodes_of l) (count l - nodes_of l) ≡ write (map edge_rec (decode_graph l).edges)
  edges_written =
      let n : length edge_part ≤ record_len * (count l - nodes_of l) =
      omega (arith, length_write (map edge_rec (decode_graph l).edges), length-map (decode_graph l).edges edge_rec, decoded_edges L l accepted) in
      ap (λ (m : List ℕ). part m (nodes_of l) (count l - nodes_of l)) both_parts
      ∙ ap (take (record_len * (count l - nodes_of l))) (drop_at node_part edge_part (record_len * nodes_of l) node_part_length)
      ∙ take_all (record_len * (count l - nodes_of l)) edge_part n

  -- the six bytes of node g are those of record g
  pub shown_node : (g : ℕ) → g < size (decode_graph l) → part l g 1 ≡ six (node_rec (node (decode_graph l) g))
  shown_node g h =
      let k : g < nodes_of l = subst (λ (n : ℕ). g < n) (decoded_size L l accepted) h in
      let n : g < count l = omega (arith, few L l accepted, k) in
      part_one l g n ∙ ap six (sym (node_at g k) ∙ ap node_rec (sym (decoded_node L l accepted g k)))
