-- Laws of records: a range of a file has the file's records, and what a record reads as, by its kind. Assumes nothing.
use Rattle.std.specs.Prelude.{◌≡◌, refl, ◌⊎◌, Bool, true, false, not, cond, ◌&&◌, ◌||◌, List, ℕ, ◌+◌, ◌-◌, ◌*◌, ◌≤◌, ◌<◌, T, eqb, length, get_or, take, drop}
use Rattle.std.proofs.Common.{sym, ap, ◌∙◌, inl, inr, arith, eqb→eq, length-take, length-drop, get_or-take, get_or-drop, eq-eqb, ne_eqb, eqb-true}
use Rattle.files.specs.Places.{record_len}
use Rattle.files.specs.Record.{record_at, count, part, node_wrong, edge_wrong, row_wrong, rule_wrong, interface_wrong, wrong, parsed, parsed_as}
use Rattle.files.specs.declared.record.Parsed.TheVariants.{Node, Edge, Row, Rule, Interface, Wrong, Other}
use Rattle.files.specs.declared.record.Parsed.{Parsed}
use Rattle.files.specs.declared.record.Record.{Record}
use Rattle.std.proofs.lemmas.Bool.{eqb-false}

-- ---- a range of a file

part_byte : (l : List ℕ) (a n j p : ℕ) → j < record_len * n → record_len * a + j ≡ p → get_or (part l a n) j 0 ≡ get_or l p 0
part_byte l a n j p h e = get_or-take (record_len * n) (drop (record_len * a) l) j 0 h ∙ get_or-drop (record_len * a) l j 0 ∙ ap (λ (q : ℕ). get_or l q 0) e

pub part_record : (l : List ℕ) (a n i : ℕ) → i < n → a + n ≤ count l → record_at (part l a n) i ≡ record_at l (a + i)
part_record l a n i h k = λ t. record { kind = start t; first = byte 1 (omega arith) t; second = byte 2 (omega arith) t; third = byte 3 (omega arith) t; fourth = byte 4 (omega arith) t; fifth = byte 5 (omega arith) t }
  where
    start : get_or (part l a n) (record_len * i) 0 ≡ get_or l (record_len * (a + i)) 0
    start = part_byte l a n (record_len * i) (record_len * (a + i)) (omega arith) (omega arith)

    byte : (c : ℕ) → c < 6 → get_or (part l a n) (record_len * i + c) 0 ≡ get_or l (record_len * (a + i) + c) 0
    byte c b = part_byte l a n (record_len * i + c) (record_len * (a + i) + c) (omega arith) (omega arith)

pub part_length : (l : List ℕ) (a n : ℕ) → a + n ≤ count l → length (part l a n) ≡ record_len * n
part_length l a n h = omega (arith, length-take (record_len * n) (drop (record_len * a) l), length-drop (record_len * a) l)

-- the file from record a on
abbrev pub tail : List ℕ → ℕ → List ℕ
tail l a = take (length l - record_len * a) (drop (record_len * a) l)

pub tail_length : (l : List ℕ) (a : ℕ) → length (tail l a) ≡ length l - record_len * a
tail_length l a = omega (arith, length-take (length l - record_len * a) (drop (record_len * a) l), length-drop (record_len * a) l)

tail_byte : (l : List ℕ) (a j p : ℕ) → j < length l - record_len * a → record_len * a + j ≡ p → get_or (tail l a) j 0 ≡ get_or l p 0
tail_byte l a j p h e = get_or-take (length l - record_len * a) (drop (record_len * a) l) j 0 h ∙ get_or-drop (record_len * a) l j 0 ∙ ap (λ (q : ℕ). get_or l q 0) e

pub tail_record : (l : List ℕ) (a n : ℕ) → a + n < count l → record_at (tail l a) n ≡ record_at l (a + n)
tail_record l a n h = λ t. record { kind = start t; first = byte 1 (omega arith) t; second = byte 2 (omega arith) t; third = byte 3 (omega arith) t; fourth = byte 4 (omega arith) t; fifth = byte 5 (omega arith) t }
  where
    start : get_or (tail l a) (record_len * n) 0 ≡ get_or l (record_len * (a + n)) 0
    start = tail_byte l a (record_len * n) (record_len * (a + n)) (omega arith) (omega arith)

    byte : (c : ℕ) → c < 6 → get_or (tail l a) (record_len * n + c) 0 ≡ get_or l (record_len * (a + n) + c) 0
    byte c b = tail_byte l a (record_len * n + c) (record_len * (a + n) + c) (omega arith) (omega arith)

-- ---- the record parsed

-- what a record reads as that is not wrong
abbrev by_kind : ℕ → Record → Parsed
by_kind k r =
    cond (eqb k 1) (Node r.first (eqb r.second 1) (eqb r.third 1))
    (cond (eqb k 2) (Edge r.first r.second r.third)
    (cond (eqb k 3) (Row r.first r.second r.third)
    (cond (eqb k 4) (Rule r.first r.second r.third r.fourth r.fifth)
    (cond (eqb k 5) (Interface r.first r.second)
    Other))))

cond_yes : (b : Bool) (x y : Parsed) → T b → cond b x y ≡ x
cond_yes true x y t = refl
cond_yes false x y t = absurd t

cond_no : (b : Bool) (x y : Parsed) → T (not b) → cond b x y ≡ y
cond_no true x y t = absurd t
cond_no false x y t = refl

pub parsed_wrong : (r : Record) → T (wrong r) → parsed r ≡ Wrong
unfolding parsed
parsed_wrong r t = cond_yes (wrong r) Wrong (by_kind r.kind r) t

parsed_right : (r : Record) (k : ℕ) → T (not (wrong r)) → r.kind ≡ k → parsed r ≡ by_kind k r
unfolding parsed
parsed_right r k t e = cond_no (wrong r) Wrong (by_kind r.kind r) t ∙ ap (λ (n : ℕ). by_kind n r) e

pub parsed_node : (r : Record) → T (not (wrong r)) → r.kind ≡ 1 → parsed r ≡ Node r.first (eqb r.second 1) (eqb r.third 1)
parsed_node r t e = parsed_right r 1 t e

pub parsed_edge : (r : Record) → T (not (wrong r)) → r.kind ≡ 2 → parsed r ≡ Edge r.first r.second r.third
parsed_edge r t e = parsed_right r 2 t e

pub parsed_row : (r : Record) → T (not (wrong r)) → r.kind ≡ 3 → parsed r ≡ Row r.first r.second r.third
parsed_row r t e = parsed_right r 3 t e

pub parsed_rule : (r : Record) → T (not (wrong r)) → r.kind ≡ 4 → parsed r ≡ Rule r.first r.second r.third r.fourth r.fifth
parsed_rule r t e = parsed_right r 4 t e

pub parsed_interface : (r : Record) → T (not (wrong r)) → r.kind ≡ 5 → parsed r ≡ Interface r.first r.second
parsed_interface r t e = parsed_right r 5 t e

-- by the kind's own tests: the tests of the other kinds fall away
pub parsed_kind : (k : ℕ) (r : Record) → r.kind ≡ k
    → parsed r
    ≡ cond ((eqb k 1 && node_wrong r) || ((eqb k 2 && edge_wrong r) || ((eqb k 3 && row_wrong r) || ((eqb k 4 && rule_wrong r) || (eqb k 5 && interface_wrong r))))) Wrong (by_kind k r)
unfolding parsed
parsed_kind k r e =
    ap (λ (n : ℕ). cond ((eqb n 1 && node_wrong r) || ((eqb n 2 && edge_wrong r) || ((eqb n 3 && row_wrong r) || ((eqb n 4 && rule_wrong r) || (eqb n 5 && interface_wrong r))))) Wrong (by_kind n r)) e

-- what the tests of a kind tell, where the tests after them tell nothing
pub told : (b d : Bool) (x : Parsed) → b ≡ d → cond d Wrong x ≡ cond b Wrong x
told b d x e = ap (λ (t : Bool). cond t Wrong x) (sym e)

pub told_wrong : (b c : Bool) (x : Parsed) → b ≡ true → Wrong ≡ cond (b || c) Wrong x
told_wrong b c x e = ap (λ (d : Bool). cond (d || c) Wrong x) (sym e)

pub told_right : (b : Bool) (x : Parsed) → b ≡ false → x ≡ cond (b || false) Wrong x
told_right b x e = ap (λ (d : Bool). cond (d || false) Wrong x) (sym e)

-- ---- the record parsed as one kind

-- the kind of what a record reads as, 0 where it reads as none
abbrev pub kind_read : Parsed → ℕ
kind_read (Node m r e) = 1
kind_read (Edge f l t) = 2
kind_read (Row o a b) = 3
kind_read (Rule q v m n p) = 4
kind_read (Interface p q) = 5
kind_read Wrong = 0
kind_read Other = 0

-- nothing is read, or the kind is n
abbrev Reads : Parsed → ℕ → Type 0
Reads x n = (kind_read x ≡ 0) ⊎ (kind_read x ≡ n)

reads_cond : (b : Bool) (x y : Parsed) (n : ℕ) → (T b → Reads x n) → Reads y n → Reads (cond b x y) n
reads_cond true x y n f g = f tt
reads_cond false x y n f g = g

reads_kind : (r : Record) → Reads (parsed r) r.kind
unfolding parsed
reads_kind r =
    reads_cond (wrong r) _ _ n (λ t. inl refl)
    (reads_cond (eqb n 1) _ _ n (λ t. inr (sym (eqb→eq n 1 t)))
    (reads_cond (eqb n 2) _ _ n (λ t. inr (sym (eqb→eq n 2 t)))
    (reads_cond (eqb n 3) _ _ n (λ t. inr (sym (eqb→eq n 3 t)))
    (reads_cond (eqb n 4) _ _ n (λ t. inr (sym (eqb→eq n 4 t)))
    (reads_cond (eqb n 5) _ _ n (λ t. inr (sym (eqb→eq n 5 t))) (inl refl))))))
  where
    n : ℕ
    n = r.kind

-- a record that reads as kind k has that kind
kind_had : (k : ℕ) (r : Record) → 1 ≤ k → kind_read (parsed r) ≡ k → r.kind ≡ k
kind_had k r h e = go (reads_kind r)
  where
    go : Reads (parsed r) r.kind → r.kind ≡ k
    go (inl z) = absurd (omega arith)
    go (inr s) = sym s ∙ e

pub as_kind : (k : ℕ) (r : Record) → r.kind ≡ k → parsed_as k r ≡ parsed r
unfolding parsed_as
as_kind k r e = ap (λ (b : Bool). cond b (parsed r) Other) (eq-eqb r.kind k e)

pub as_other : (k : ℕ) (r : Record) → (r.kind ≡ k → ⊥) → parsed_as k r ≡ Other
unfolding parsed_as
as_other k r h = ap (λ (b : Bool). cond b (parsed r) Other) (ne_eqb r.kind k h)

-- a test that asks for one kind only sees no difference
pub as_same : {A : Type 0} (k : ℕ) (r : Record) (f : Parsed → A) → 1 ≤ k → ((x : Parsed) → (kind_read x ≡ k → ⊥) → f Other ≡ f x) → f (parsed_as k r) ≡ f (parsed r)
as_same k r f h g = go (eqb r.kind k) refl
  where
    go : (b : Bool) → eqb r.kind k ≡ b → f (parsed_as k r) ≡ f (parsed r)
    go true e = ap f (as_kind k r (eqb-true r.kind k e))
    go false e = ap f (as_other k r (eqb-false r.kind k e)) ∙ g (parsed r) (λ q. eqb-false r.kind k e (kind_had k r h q))
