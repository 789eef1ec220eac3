-- The theorems of specs/Model/Filed that rest on a definition which a must-fail edit turns: there they could not be read under the edit.
-- Filed: The model, where it is within the limits, is a graph that a file can hold.
use Rattle.std.proofs.Common.{subst, arith}
use Rattle.std.specs.Prelude.{List, suc, ◌≤◌, T, length}
use Rattle.files.specs.Basics.Lists.{index_i}
use Rattle.files.specs.Basics.Order.{ascends_at}
use Rattle.files.specs.Decode.{Filed}
use Rattle.files.specs.Graph.{Node, no_node, no_edge, size, Flow}
use Rattle.files.specs.Interface.{Interface, provides, Of}
use Rattle.files.specs.Interface.Laws.{in_set_small, labelled_small}
use Rattle.files.specs.Property.{Row, Property}
use Rattle.files.specs.declared.record.Limits.{Limits}
use Rattle.maximal.specs.Model.{model, state_at}
use Rattle.maximal.proofs.Theorems.Model.Computed.{is_model}
use Rattle.maximal.proofs.Theorems.Model.Maximal.{model_flow, model_of}
use Rattle.maximal.specs.Model.Ordered.{EdgeBefore, model_edges_ascend}
use Rattle.maximal.specs.Model.Filed.{edge_before}

module _ (I : Interface) (P : List Row) (wf : Property P) where
  pub model_is_flow : Flow (model I P)
  model_is_flow = model_flow I P wf (state_at I P) (model I P) (is_model I P wf)

  pub model_is_of : Of I (model I P)
  model_is_of = model_of I P wf (state_at I P) (model I P) (is_model I P wf)

  pub model_filed : (L : Limits) → size (model I P) ≤ L.nodes → length (model I P).edges ≤ L.edges → Filed L (model I P)
  model_filed L n e = record {
    flow = model_is_flow;
    methods = λ v m.
        let a = index_i no_node (model I P).nodes v m in
        let b = in_set_small I.provided v.method (subst (λ (x : Node). T (provides I x.method)) a.2 (model_is_of.methods a.0 a.1)) in
        (b.0, omega (arith, b.1));
    labels = λ d m. let b = labelled_small I d.label (model_is_of.calls d m) in omega arith;
    few_nodes = n;
    few_edges = e;
    ascending = λ j h. edge_before _ _ (ascends_at EdgeBefore no_edge (model I P).edges (model_edges_ascend I P) j (suc j) (omega arith) h);
  }
