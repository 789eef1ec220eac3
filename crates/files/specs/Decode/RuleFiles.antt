-- An accepted rule file holds rules in range, in order. Assumes nothing.
use Rattle.std.specs.Prelude.{◌≡◌, ℕ, suc, ◌≤◌, ◌<◌, length, get_or}
use Rattle.std.proofs.Common.{sym, subst, subst₂, ◌∙◌, inl, inr, zero-add, arith}
use Rattle.std.proofs.Math.Path.{ap}
use mathlib.Core.List.{List, Memᴰ}
use Rattle.std.proofs.Math.Option.{none}
use Rattle.files.specs.Basics.Lexical.{Before, says_before}
use Rattle.files.specs.Basics.Says.{says_eq, says_sure}
use Rattle.files.specs.Basics.Tables.{length_table, getD_table, table_e}
use Rattle.files.specs.Decode.{to_rule, decode_rules, FiledRules, RuleIn, rule_order}
use Rattle.files.specs.Decode.AnyFile.{none_applies}
use Rattle.files.specs.Record.{record_at, kind_at, count}
use Rattle.files.specs.Refusal.{rules, rule_key, refusal}
use Rattle.files.specs.Rules.{Rule, no_rule}
use Rattle.files.specs.Table.{RuleWrong, Out}
use Rattle.files.specs.declared.record.Limits.{Limits}
use Rattle.files.specs.declared.record.Record.{Record}
use Rattle.files.specs.Basics.Tests.{at_most}

inside : (lo hi x : ℕ) → (Out lo hi x → ⊥) → (lo ≤ x) × (x ≤ hi)
inside lo hi x f = (at_most lo x (λ h. f (inl h)), at_most x hi (λ h. f (inr h)))

rule_in : (r : Record) → (RuleWrong r → ⊥) → RuleIn (to_rule r)
rule_in r f =
    record {
      state_in = at_most r.first 6 (λ h. f (inl h));
      event_in = inside 1 2 r.second (λ h. f (inr (inl h)));
      m1_in = inside 1 8 r.third (λ h. f (inr (inr (inl h))));
      m2_in = inside 1 8 r.fourth (λ h. f (inr (inr (inr (inl h)))));
      next_in = at_most r.fifth 7 (λ h. f (inr (inr (inr (inr h)))));
    }

module _ (L : Limits) (l : List ℕ) (accepted : refusal L rules l ≡ none) where
  pub is_rule : (i : ℕ) → i < count l → kind_at l i ≡ 4
  is_rule i h = says_sure (says_eq (kind_at l i) 4) (λ e. none_applies L rules l accepted 2 i (h, e))

  abbrev ruleAt : ℕ → Rule
  ruleAt i = to_rule (record_at l i)

  pub decoded_count : length (decode_rules l) ≡ count l
  unfolding decode_rules
  decoded_count = length_table ruleAt 0 (count l)

  pub decoded_rule : (j : ℕ) → j < count l → get_or (decode_rules l) j no_rule ≡ to_rule (record_at l j)
  unfolding decode_rules
  decoded_rule j h = getD_table ruleAt 0 (count l) j no_rule h ∙ ap ruleAt (zero-add j)

  rule_e : (u : Rule) → Memᴰ u (decode_rules l) → (i : ℕ) × (i < count l) × (to_rule (record_at l i) ≡ u)
  unfolding decode_rules
  rule_e u m = let r = table_e ruleAt 0 (count l) u m in (r.0, omega (arith, r.2), r.3)

  in_order : (i : ℕ) → suc i < count l → Before (rule_key (record_at l i)) (rule_key (record_at l (suc i)))
  in_order i k =
      says_sure (says_before (rule_key (record_at l i)) (rule_key (record_at l (suc i))))
      (λ f. none_applies L rules l accepted 4 (suc i) (k, (is_rule i (omega arith), (is_rule (suc i) k, f))))

  -- an accepted rule file decodes to rules in range, strictly ascending by (state, event, m1, m2)
  pub decoded_rules : FiledRules (decode_rules l)
  decoded_rules = record { rules_in = ins; rules_ascend = asc }
    where
      ins : (u : Rule) → Memᴰ u (decode_rules l) → RuleIn u
      ins u m =
          let r = rule_e u m in
          subst RuleIn r.2 (rule_in (record_at l r.0) (λ w. none_applies L rules l accepted 3 r.0 (r.1, inr (inr (inr (inl (is_rule r.0 r.1, w)))))))

      asc : (j : ℕ) → suc j < length (decode_rules l) → Before (rule_order (get_or (decode_rules l) j no_rule)) (rule_order (get_or (decode_rules l) (suc j) no_rule))
      asc j h =
          let a : suc j < count l = omega (arith, decoded_count) in
          subst₂ (λ (x y : Rule). Before (rule_order x) (rule_order y)) (sym (decoded_rule j (omega arith))) (sym (decoded_rule (suc j) a)) (in_order j a)
