-- The theorems of specs/Modelling/Meaning that rest on a definition which a must-fail edit turns: there they could not be read under the edit.
-- Meaning: What a returned value of modelling means. The only hypothesis is what the contract of `model` states.
use Rattle.std.specs.Prelude.{◌≡◌, refl, List, ℕ, ◌+◌, ◌*◌, ◌<◌, length, take}
use Rattle.std.proofs.Common.{sym, ap, subst, ◌∙◌}
use Rattle.files.specs.Decode.{decode_property, decode_interface}
use Rattle.files.specs.Graph.{Graph, size}
use Rattle.files.specs.Outcome.{Does, Written}
use Rattle.files.specs.Outcome.Meaning.{Heard, itself, heard_itself, refuses_by, clears_by}
use Rattle.files.specs.Places.{record_len}
use Rattle.files.specs.declared.record.Limits.{Limits}
use Rattle.maximal.specs.Modelling.{modelled_answer, modelled, Modelled}
use Rattle.maximal.proofs.Theorems.Modelling.Laws.{model_says}
use Rattle.maximal.specs.Modelling.Meaning.{G, ModelMeans, WrittenModel, d, edges_counted, is_written, ls, modelled_enum, nodes_counted, o, said, wrote}

module _ {R : Type 0} (tell : Modelled → R) (heard : Heard tell) (L : Limits) (i p out work out' work' : List ℕ) (c : Modelled)
    (does : Does (modelled L i p (length out) (length work)) out work out' work' (modelled_answer c)) where
  writes : (n e : ℕ) → tell c ≡ tell (Written n e) → WrittenModel L (decode_interface i) (decode_property p) n e (take (record_len * (n + e)) out')
  writes n e q =
      let m = model_says L i p (length out) (length work) (said tell heard L i p out work out' work' c does) ((d tell heard L i p out work out' work' c does).accepted.1 (((is_written tell heard L i p out work out' work' c does) n e).0 q).0) in
      let z = ap (λ (H : Graph). size H) m.is_the_model ∙ (nodes_counted tell heard L i p out work out' work' c does) n e q in
      subst (WrittenModel L (decode_interface i) (decode_property p) n e) (sym ((wrote tell heard L i p out work out' work' c does) n e q).result) (record {
        accepted = m.accepted;
        nodes_are = z;
        edges_are = ap (λ (H : Graph). length H.edges) m.is_the_model ∙ (edges_counted tell heard L i p out work out' work' c does) n e q;
        is_the_model = m.is_the_model;
        of_interface = m.of_interface;
        is_model = m.is_model;
        ascending = λ i j h k. m.ascending i j h (subst (λ (x : ℕ). j < x) (sym z) k);
        each_once = λ i j h k. m.each_once i j (subst (λ (x : ℕ). i < x) (sym z) h) (subst (λ (x : ℕ). j < x) (sym z) k);
        simulates_iff = m.simulates_iff;
      })

  pub model_tells : ModelMeans tell L i p out work out' work' (tell c)
  model_tells = record {
    refuses = refuses_by modelled_enum tell heard (o tell heard L i p out work out' work' c does) (said tell heard L i p out work out' work' c does) (ls tell heard L i p out work out' work' c does) (d tell heard L i p out work out' work' c does) c does.answers.answer_is out out' does.answers.out_is;
    clears = clears_by modelled_enum tell heard (o tell heard L i p out work out' work' c does) (said tell heard L i p out work out' work' c does) (ls tell heard L i p out work out' work' c does) (d tell heard L i p out work out' work' c does) c does.answers.answer_is work work' does.work_is;
    written_iff = (
      λ q. (((is_written tell heard L i p out work out' work' c does) q.0 q.1).0 q.2).0,
      λ t. (size (G tell heard L i p out work out' work' c does), length (G tell heard L i p out work out' work' c does).edges, ((is_written tell heard L i p out work out' work' c does) (size (G tell heard L i p out work out' work' c does)) (length (G tell heard L i p out work out' work' c does).edges)).1 (t, refl, refl)),
    );
    writes = writes;
    past_unchanged = λ n e q. ((wrote tell heard L i p out work out' work' c does) n e q).rest;
  }

-- The returned value, from what the contract states of it.
pub model_means : (L : Limits) (i p out work out' work' : List ℕ) (r : Modelled)
    → Does (modelled L i p (length out) (length work)) out work out' work' (modelled_answer r) → ModelMeans itself L i p out work out' work' r
model_means L i p out work out' work' r does = model_tells itself heard_itself L i p out work out' work' r does
