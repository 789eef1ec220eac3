-- Watching is refused by the first line of its published order that applies, and otherwise says what `Watches` says.
-- Its theorems that rest on a definition which a must-fail edit turns stand in proofs/Theorems/Watching/Laws.
use Rattle.std.specs.Prelude.{◌≡◌, ◌↔◌, Bool, ℕ, ◌≤◌, ◌<◌}
use Rattle.std.proofs.Math.Path.{refl, ap}
use Rattle.std.proofs.Common.{ap₂, subst, ◌∙◌, arith}
use Rattle.std.proofs.Math.Bool.{true, false, cond}
use mathlib.Core.List.{List, [], ◌∷◌, Memᴰ}
use Rattle.std.proofs.Math.Option.{Option, none}
use Rattle.std.proofs.Math.Dec.{T}
use Rattle.std.proofs.Math.ListN.{length}
use Rattle.files.specs.Basics.Says.{says_lt}
use Rattle.files.specs.Decode.{Filed, decode_graph, decode_interface, decode_rules, FiledRules}
use Rattle.files.specs.Graph.{Graph, Edge}
use Rattle.files.specs.Outcome.{Said, refuses, says, refusal_at, line, whole_line, file_lines, out_line, NoneOf, FirstOf, Matches, NoStart, answered, out_check}
use Rattle.files.specs.Outcome.Calls as calls
use Rattle.files.specs.Outcome.Laws.{whole_match, scan_match, files_match, out_match, refused_by, accepted_by, says_no_start, whole_none_i, file_none}
use Rattle.files.specs.Outcome.Laws.{none_i, none_end, past_line, past_file}
use Rattle.files.specs.Refusal.{graph, rules, interface, refusal}
use Rattle.files.specs.Rules.{Rule, Event, Monitor, watch}
use Rattle.files.specs.Rules.Laws.{watch_small}
use Rattle.files.specs.Sides.{ForeignAt, Unprovided, first_foreign, unprovided}
use Rattle.files.specs.Sides.Laws.{foreign_finds, says_unprovided}
use Rattle.files.specs.Sides.OfInterface.{of_foreign}
use Rattle.files.specs.declared.record.Limits.{Limits}
use Rattle.runs.specs.Regions.{watch_room}
use Rattle.runs.specs.Summary.{clean}
use Rattle.runs.specs.Summary.Trails.{trail, trail_bytes}
use Rattle.runs.specs.Watching.{watch_said, watch_verdict, watch_checks, watch_lines, watched, watch_first}
use Rattle.files.specs.Interface.{Interface, Of}
use Rattle.files.specs.Basics.First.{Finds}
use Rattle.files.specs.Outcome.{published}

-- ---- what the verdict says

-- labels and states of accepted files are small
pub filed_labels : (L : Limits) (G : Graph) → Filed L G → (e : Edge) → Memᴰ e G.edges → e.label < 9
filed_labels L G f e m = let a = f.labels e m in omega arith

pub filed_monitor : (us : List Rule) → FiledRules us → (q : ℕ) (v : Event) → q < 8 → watch us q v < 8
filed_monitor us f = watch_small us (λ u m. let a = (f.rules_in u m).next_in in omega arith)

-- ---- the call

module _ (L : Limits) (i g r : List ℕ) (m out work : ℕ) where
  abbrev pub said : Said
  said = watch_verdict L i g r m out work

  pub watch_match : Matches (watch_checks L i g r m out work) (watch_lines L i g r m out work)
  watch_match =
      whole_match 13 _ (work < watch_room) (says_lt work watch_room) _ _ (files_match L 1 interface i _ _ (files_match L 2 graph g _ _ (files_match L 3 rules r _ _
      (whole_match 3 _ _ (says_no_start m) _ _ (scan_match 9 2 _ _ (foreign_finds (decode_interface i) g) _ _
      (whole_match 10 _ _ (says_unprovided (decode_interface i) m) _ _ (out_match out said)))))))

  pub watched_is : watched L i g r m out work ≡ answered (watch_first L i g r m work (out_check out said)) said
  unfolding watched
  watched_is = refl

  -- the lines stand in the published order
  pub watch_order : published (watch_lines L i g r m out work) ≡ true
  watch_order = refl

  -- and are the call's row of the table
  pub watch_row : calls.Row L calls.watch (i ∷ g ∷ r ∷ []) (watch_lines L i g r m out work)
  watch_row = record { numbers_are = refl; files_are = refl }

  -- refused, by number, file and record, exactly where that comes first in the published order
  pub watch_refused : (n f k : ℕ) → (watched L i g r m out work ≡ refuses (refusal_at n f k)) ↔ FirstOf (watch_lines L i g r m out work) n f k
  unfolding watched
  watch_refused = refused_by _ _ watch_match said

  -- a graph of its interface is never refused by 9
  pub watch_own : Of (decode_interface i) (decode_graph g) → (k : ℕ) → FirstOf (watch_lines L i g r m out work) 9 2 k → ⊥
  watch_own of k x =
      let start = whole_line 3 (NoStart m) (line 9 2 (ForeignAt (decode_interface i) g) (whole_line 10 (Unprovided (decode_interface i) m) (out_line out said))) in
      let a0 = past_line (λ y. omega (arith, y.0)) x in
      let a1 = past_file L 1 interface i (file_lines L 2 graph g (file_lines L 3 rules r start)) 9 2 k (omega arith) a0.1 in
      let a2 = past_file L 2 graph g (file_lines L 3 rules r start) 9 2 k (omega arith) a1.1 in
      let a3 = past_file L 3 rules r start 9 2 k (omega arith) a2.1 in
      let a4 = past_line (λ y. omega (arith, y.0)) a3.1 in
      let a5 = past_line (λ y. of_foreign L (decode_interface i) g a2.0 of k y.1.1.0) a4.1 in
      let a6 = past_line (λ y. omega (arith, y.0)) a5.1 in
      (past_line (λ y. omega (arith, y.0)) a6.1).1

  -- accepted exactly where nothing applies
  pub watch_accepted : (watched L i g r m out work ≡ says said) ↔ NoneOf (watch_lines L i g r m out work)
  unfolding watched
  watch_accepted = accepted_by _ _ watch_match said

-- ---- of accepted files

pub clean_said : (G : Graph) (mon : Monitor) (m : ℕ) → clean G mon m ≡ true → watch_said G mon m ≡ record { verdict = 1; values = []; written = [] }
unfolding watch_said
clean_said G mon m e =
    ap (λ (b : Bool). cond b (record { verdict = 1; values = []; written = [] }) (record { verdict = 2; values = length (trail G mon m) ∷ []; written = trail_bytes G mon m })) e

pub bad_said : (G : Graph) (mon : Monitor) (m : ℕ) → clean G mon m ≡ false → watch_said G mon m ≡ record { verdict = 2; values = length (trail G mon m) ∷ []; written = trail_bytes G mon m }
unfolding watch_said
bad_said G mon m e =
    ap (λ (b : Bool). cond b (record { verdict = 1; values = []; written = [] }) (record { verdict = 2; values = length (trail G mon m) ∷ []; written = trail_bytes G mon m })) e

-- watching says clean or bad
pub watch_no_third : (G : Graph) (mon : Monitor) (m : ℕ) (s : Said) → s ≡ watch_said G mon m → s.verdict ≡ 3 → ⊥
unfolding watch_said
watch_no_third G mon m s e v = go (clean G mon m) e
  where
    go : (b : Bool) → s ≡ cond b (record { verdict = 1; values = []; written = [] }) (record { verdict = 2; values = length (trail G mon m) ∷ []; written = trail_bytes G mon m }) → ⊥
    go true q = let w : s.verdict ≡ 1 = ap (λ (x : Said). x.verdict) q in absurd (omega arith)
    go false q = let w : s.verdict ≡ 2 = ap (λ (x : Said). x.verdict) q in absurd (omega arith)

-- whatever files are accepted, of one interface that provides what is required, with room enough, get the verdict of what they hold
pub watch_on : (L : Limits) (i g r : List ℕ) (m out work : ℕ) (I : Interface) (G : Graph) (mon : Monitor) (s : Said)
    → refusal L interface i ≡ none → refusal L graph g ≡ none → refusal L rules r ≡ none → (NoStart m → ⊥)
    → decode_interface i ≡ I → decode_graph g ≡ G → ◌≡◌ {A = Monitor} (watch (decode_rules r)) mon → first_foreign I g ≡ none → unprovided I m ≡ false
    → watch_said G mon m ≡ s → length s.written ≤ out → watch_room ≤ work → watched L i g r m out work ≡ says s
watch_on L i g r m out work I G mon s a b c st d e f fo un q o w =
    (watch_accepted L i g r m out work).1
    (whole_none_i 13 _ _ (λ x. absurd (omega arith)) (file_none L 1 interface i _ a (file_none L 2 graph g _ b (file_none L 3 rules r _ c
    (whole_none_i 3 _ _ st (none_i 9 2 _ _ not_foreign (whole_none_i 10 _ _ provided
    (whole_none_i 12 _ _ (λ x. absurd (omega (arith, ap (λ (y : Said). length y.written) same))) none_end))))))))
    ∙ ap says same
  where
    same : watch_said (decode_graph g) (watch (decode_rules r)) m ≡ s
    same = ap₂ (λ (x : Graph) (y : Monitor). watch_said x y m) e f ∙ q

    not_foreign : (k : ℕ) → ForeignAt (decode_interface i) g k → ⊥
    not_foreign = subst (λ (x : Option ℕ). Finds x (ForeignAt (decode_interface i) g)) (ap (λ (x : Interface). first_foreign x g) d ∙ fo) (foreign_finds (decode_interface i) g)

    provided : Unprovided (decode_interface i) m → ⊥
    provided x = subst T (ap (λ (y : Interface). unprovided y m) d ∙ un) ((says_unprovided (decode_interface i) m).hear x)
