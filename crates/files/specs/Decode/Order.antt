-- Neighbours that ascend strictly make all ascend, so that no key stands twice: one rule an event, no edge twice. Assumes nothing.
use Rattle.std.specs.Prelude.{◌≡◌, List, ℕ, ◌<◌, length, get_or}
use Rattle.std.proofs.Common.{subst}
use Rattle.files.specs.Basics.Lexical.{Before, before_irrefl, all_ascend}
use Rattle.files.specs.Decode.{Filed, key, FiledRules, rule_order}
use Rattle.files.specs.Graph.{Graph, no_edge}
use Rattle.files.specs.Rules.{Rule, no_rule}
use Rattle.files.specs.declared.record.Limits.{Limits}

-- no edge stands twice
pub edges_differ : (L : Limits) (G : Graph) → Filed L G → (i j : ℕ) → i < j → j < length G.edges → key (get_or G.edges i no_edge) ≡ key (get_or G.edges j no_edge) → ⊥
edges_differ L G filed i j h l e =
    before_irrefl (key (get_or G.edges j no_edge))
    (subst (λ (x : List ℕ). Before x (key (get_or G.edges j no_edge))) e (all_ascend (λ n. key (get_or G.edges n no_edge)) (length G.edges) filed.ascending i j h l))

-- an event has at most one rule
pub rules_differ : (us : List Rule) → FiledRules us → (i j : ℕ) → i < j → j < length us → rule_order (get_or us i no_rule) ≡ rule_order (get_or us j no_rule) → ⊥
rules_differ us filed i j h l e =
    before_irrefl (rule_order (get_or us j no_rule))
    (subst (λ (x : List ℕ). Before x (rule_order (get_or us j no_rule))) e (all_ascend (λ n. rule_order (get_or us n no_rule)) (length us) filed.rules_ascend i j h l))
