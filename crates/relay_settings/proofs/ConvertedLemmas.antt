-- The tables of rules, one after the other.
use Rattle.std.proofs.Common.{◌≡◌, ◌∙◌, ◌<◌, ◌+◌, refl, ap, sym, subst, List, [], ◌∷◌, ◌++◌, ℕ, Option, Some, None, append_assoc, append-nil, get_or, length, take}
use Rattle.std.specs.Prelude.{IfSome, codes}
use Rattle.std.specs.Fmt.{◌++?◌, debug_str}
use Rattle.std.proofs.lemmas.List.{map-append, take_more}
use Rattle.relay_admin.specs.declared.rules.rule.Rule.{Rule}
use Rattle.relay_admin.specs.rules.Addr.{address_text}
use Rattle.relay_admin.specs.rules.Grammar.{Entry, entries_of, entry_of}
use Rattle.relay_settings.specs.ConvertedText.{converted_text, idle_line, rule_table, tables_of}

joined_nil : (a : Option (List ℕ)) → a ≡ (Some [] ++? a)
joined_nil None = refl
joined_nil (Some text) = refl

pub joined_assoc : (a b c : Option (List ℕ)) → (a ++? b) ++? c ≡ a ++? b ++? c
joined_assoc None b c = refl
joined_assoc (Some x) None c = refl
joined_assoc (Some x) (Some y) None = refl
joined_assoc (Some x) (Some y) (Some z) = ap Some (append_assoc x y z)

nil_joined : (a : Option (List ℕ)) → a ++? Some [] ≡ a
nil_joined None = refl
nil_joined (Some x) = ap Some (append-nil x)

-- one table more
pub tables_of-last : (rules : List Entry) (rule : Entry) → tables_of (rules ++ rule ∷ []) ≡ tables_of rules ++? rule_table rule
tables_of-last [] rule = nil_joined (rule_table rule) ∙ joined_nil (rule_table rule)
tables_of-last (first ∷ rules) rule =
    ap (λ (others : Option (List ℕ)). rule_table first ++? others) (tables_of-last rules rule)
    ∙ sym (joined_assoc (rule_table first) (tables_of rules) (rule_table rule))

-- ---- One table

joined_three : (a b c : List ℕ) (rest : Option (List ℕ)) → (Some a ++? (Some b ++? (Some c ++? rest))) ≡ (Some ((a ++ b) ++ c) ++? rest)
joined_three a b c None = refl
joined_three a b c (Some rest) = ap Some (sym (append_assoc (a ++ b) c rest ∙ append_assoc a b (c ++ rest)))

table_of_texts : (name listen target idle : List ℕ) → Option (List ℕ)
table_of_texts name listen target idle =
    Some ((codes "\n[[rule]]\nname = \"" ++ name) ++ codes "\"\nlisten = [") ++? (debug_str listen ++? (Some (codes "]\ntarget = [{ at = ")
    ++? (debug_str target ++? Some (codes " }]\n" ++ idle))))

-- what is written of its texts is the table of a rule
pub table_said : (rule : Entry) (name listen target idle text : List ℕ) → name ≡ rule.name → listen ≡ address_text rule.listen
    → target ≡ address_text rule.target → idle ≡ idle_line rule.idle
    → IfSome (Some (codes "\n[[rule]]\nname = \"") ++? (Some name ++? (Some (codes "\"\nlisten = [") ++? (debug_str listen
    ++? (Some (codes "]\ntarget = [{ at = ") ++? (debug_str target ++? (Some (codes " }]\n") ++? Some idle))))))) (λ bytes. text ≡ bytes)
    → IfSome (rule_table rule) (λ bytes. text ≡ bytes)
unfolding table_of_texts
table_said rule name listen target idle text name_is listen_is target_is idle_is =
    subst (λ (said : Option (List ℕ)). IfSome said (λ bytes. text ≡ bytes))
    (joined_three (codes "\n[[rule]]\nname = \"") name (codes "\"\nlisten = [") (debug_str listen ++? (Some (codes "]\ntarget = [{ at = ")
    ++? (debug_str target ++? Some (codes " }]\n" ++ idle))))
    ∙ ap (λ it. table_of_texts it listen target idle) name_is
    ∙ ap (λ it. table_of_texts rule.name it target idle) listen_is
    ∙ ap (λ it. table_of_texts rule.name (address_text rule.listen) it idle) target_is
    ∙ ap (λ it. table_of_texts rule.name (address_text rule.listen) (address_text rule.target) it) idle_is)

-- ---- The table of a further rule

both_said : (a b : Option (List ℕ)) (old table new : List ℕ) → IfSome a (λ text. old ≡ text) → IfSome b (λ text. table ≡ text)
    → new ≡ old ++ table → IfSome (a ++? b) (λ text. new ≡ text)
both_said None b old table new before here is = tt
both_said (Some a) None old table new before here is = tt
both_said (Some a) (Some b) old table new before here is =
    is ∙ ap (λ (it : List ℕ). it ++ table) before ∙ ap (λ (it : List ℕ). a ++ it) here

pub table_more : (rules : List Rule) (i : ℕ) (rule : Rule) (old new table : List ℕ) → i < length rules → rule ≡ get_or rules i rule
    → IfSome (converted_text (entries_of (take i rules))) (λ text. old ≡ text)
    → IfSome (rule_table (entry_of rule)) (λ text. table ≡ text) → new ≡ old ++ table
    → IfSome (converted_text (entries_of (take (i + 1) rules))) (λ text. new ≡ text)
table_more rules i rule old new table within is before here grown =
    let entries : entries_of (take (i + 1) rules) ≡ entries_of (take i rules) ++ entry_of rule ∷ [] =
    ap entries_of (take_more rules i rule within) ∙ map-append entry_of (take i rules) (get_or rules i rule ∷ [])
    ∙ ap (λ (it : Rule). entries_of (take i rules) ++ entry_of it ∷ []) (sym is) in
    let text : converted_text (entries_of (take (i + 1) rules)) ≡ (converted_text (entries_of (take i rules)) ++? rule_table (entry_of rule)) =
    ap converted_text entries
    ∙ ap (λ (tables : Option (List ℕ)). Some (codes "# The rules of a rules file. Options of serve have keys too.\n") ++? tables)
    (tables_of-last (entries_of (take i rules)) (entry_of rule))
    ∙ sym (joined_assoc (Some (codes "# The rules of a rules file. Options of serve have keys too.\n")) (tables_of (entries_of (take i rules))) (rule_table (entry_of rule))) in
    subst (λ (said : Option (List ℕ)). IfSome said (λ bytes. new ≡ bytes)) (sym text)
    (both_said _ _ old table new before here grown)
