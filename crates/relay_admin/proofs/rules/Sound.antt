-- What is read is a rule of the grammar, and this is its text.
use Rattle.std.proofs.Common.{◌≡◌, ◌∙◌, ap, refl, subst, ℕ, ◌≤◌, List, ◌∷◌, ◌++◌, Bool, true, false, ◌&&◌, Option, Some}
use Rattle.std.proofs.Common.{None, arith}
use Rattle.std.specs.Prelude.{if◌then◌else◌, codes, IfSome}
use Rattle.std.specs.Str.{bytes_eq}
use Rattle.std.specs.Fmt.{decimal}
use Rattle.relay_admin.specs.rules.Addr.{Address, tcp, unix, dot, colon, is_path, IsAddress, address_text}
use Rattle.relay_admin.specs.rules.Grammar.{Entry, IsIdle, time_text, is_name, space, SpellsRule}
use Rattle.relay_admin.specs.declared.rules.rule.TheConstants.{MAX_IDLE_MS}
use Rattle.relay_admin.specs.TextReading.{◌>>=◌, split_at_first, number_within, time_within}
use Rattle.relay_admin.specs.rules.Reading.{tcp_at, path_at, address_at, rule_at}
use Rattle.relay_admin.proofs.TextLemmas.{both, bind_some, guard_some, same_bytes, split_sound}
use Rattle.relay_admin.proofs.NumberLemmas.{within_sound}

-- the text is that of this address of the grammar
abbrev Spells : List ℕ → Address → Type 0
Spells text address = (text ≡ address_text address) × IsAddress address

tcp_sound : (text : List ℕ) (address : Address) → tcp_at text ≡ Some address
    → Spells (codes "tcp" ++ colon ∷ text) address
unfolding tcp_at
tcp_sound text address e =
    let first = bind_some (split_at_first dot text) _ address e in
    let second = bind_some (split_at_first dot first.0.1) _ address first.2 in
    let third = bind_some (split_at_first dot second.0.1) _ address second.2 in
    let fourth = bind_some (split_at_first colon third.0.1) _ address third.2 in
    let a = bind_some (number_within 0 255 first.0.0) _ address fourth.2 in
    let b = bind_some (number_within 0 255 second.0.0) _ address a.2 in
    let c = bind_some (number_within 0 255 third.0.0) _ address b.2 in
    let d = bind_some (number_within 0 255 fourth.0.0) _ address c.2 in
    let port = bind_some (number_within 1 65535 fourth.0.1) _ address d.2 in
    let text_a = split_sound dot text first.0 first.1 in
    let text_b = split_sound dot first.0.1 second.0 second.1 in
    let text_c = split_sound dot second.0.1 third.0 third.1 in
    let text_d = split_sound colon third.0.1 fourth.0 fourth.1 in
    let is_a = within_sound 0 255 first.0.0 a.0 a.1 in
    let is_b = within_sound 0 255 second.0.0 b.0 b.1 in
    let is_c = within_sound 0 255 third.0.0 c.0 c.1 in
    let is_d = within_sound 0 255 fourth.0.0 d.0 d.1 in
    let is_port = within_sound 1 65535 fourth.0.1 port.0 port.1 in
    joined text first.0.0 first.0.1 second.0.0 second.0.1 third.0.0 third.0.1 fourth.0.0 fourth.0.1 a.0 b.0 c.0 d.0
    port.0 address port.2
    text_a.0 text_b.0 text_c.0 text_d.0 is_a.0 is_b.0 is_c.0 is_d.0 is_port.0 is_a.2 is_b.2 is_c.2 is_d.2 is_port.1
    is_port.2
  where
    joined : (text a at b bt c ct d dt : List ℕ) (i j k l m : ℕ) (address : Address)
        → Some (tcp i j k l m) ≡ Some address
        → text ≡ a ++ dot ∷ at → at ≡ b ++ dot ∷ bt → bt ≡ c ++ dot ∷ ct → ct ≡ d ++ colon ∷ dt
        → a ≡ decimal i → b ≡ decimal j → c ≡ decimal k → d ≡ decimal l → dt ≡ decimal m
        → i ≤ 255 → j ≤ 255 → k ≤ 255 → l ≤ 255 → 1 ≤ m → m ≤ 65535
        → Spells (codes "tcp" ++ colon ∷ text) address
    joined text a at b bt c ct d dt i j k l m address is e1 e2 e3 e4 f1 f2 f3 f4 f5 hi hj hk hl lo hm =
        let same : tcp i j k l m ≡ address = cc in
        let spelled : text ≡ decimal i ++ dot ∷ (decimal j
        ++ dot ∷ (decimal k ++ dot ∷ (decimal l ++ colon ∷ decimal m))) = cc in
        subst (Spells (codes "tcp" ++ colon ∷ text)) same (
          ap (λ t. codes "tcp" ++ colon ∷ t) spelled,
          (omega arith, omega arith, omega arith, omega arith, omega arith, omega arith),
        )

path_sound : (text : List ℕ) (address : Address) → path_at text ≡ Some address
    → Spells (codes "unix" ++ colon ∷ text) address
unfolding path_at
path_sound text address e =
    let path = guard_some (is_path text) (unix text) address e in
    subst (Spells (codes "unix" ++ colon ∷ text)) path.1 (refl, path.0)

-- one of two ways to read on, by a word
pub one_of_two : {A : Type 0} (b c : Bool) (x y : Option A) (z : A) (P : Type 0) → (b ≡ true → x ≡ Some z → P)
    → (c ≡ true → y ≡ Some z → P) → (if b then x else if c then y else None) ≡ Some z → P
one_of_two true c x y z P f g e = f refl e
one_of_two false true x y z P f g e = g refl e
one_of_two false false x y z P f g e = absurd (cc)

pub address_sound : (text : List ℕ) (address : Address) → address_at text ≡ Some address → Spells text address
unfolding address_at
address_sound text address e =
    let kind = bind_some (split_at_first colon text) _ address e in
    let spelled : text ≡ kind.0.0 ++ colon ∷ kind.0.1 = (split_sound colon text kind.0 kind.1).0 in
    one_of_two (bytes_eq kind.0.0 (codes "tcp")) (bytes_eq kind.0.0 (codes "unix")) (tcp_at kind.0.1)
    (path_at kind.0.1) address (Spells text address)
    (λ is h. let rest = tcp_sound kind.0.1 address h in
    (spelled ∙ ap (λ t. t ++ colon ∷ kind.0.1) (same_bytes kind.0.0 (codes "tcp") is) ∙ rest.0, rest.1))
    (λ is h. let rest = path_sound kind.0.1 address h in
    (spelled ∙ ap (λ t. t ++ colon ∷ kind.0.1) (same_bytes kind.0.0 (codes "unix") is) ∙ rest.0, rest.1))
    kind.2

pub time_sound : (low high : ℕ) (text : List ℕ) (time : Option ℕ) → time_within low high text ≡ Some time
    → (text ≡ time_text time) × IfSome time (λ ms. (low ≤ ms) × (ms ≤ high))
unfolding time_within
time_sound low high text time e = by_word (bytes_eq text (codes "never")) (λ t. same_bytes text (codes "never") t) e
  where
    Spelled : Option ℕ → Type 0
    Spelled o = (text ≡ time_text o) × IfSome o (λ ms. (low ≤ ms) × (ms ≤ high))

    by_word : (b : Bool) → (b ≡ true → text ≡ codes "never")
        → (if b then Some None else (number_within low high text >>= λ n. Some (Some n))) ≡ Some time
        → Spelled time
    by_word true word h =
        let same : None ≡ time = cc in
        subst Spelled same (word refl, tt)
    by_word false word h =
        let ms = bind_some (number_within low high text) _ time h in
        let is : Some (Some ms.0) ≡ Some time = ms.2 in
        let same : Some ms.0 ≡ time = cc in
        let spelled = within_sound low high text ms.0 ms.1 in
        subst Spelled same (spelled.0, (spelled.1, spelled.2))

-- a time from 1 on is an idle time
idle_of_time : (idle : Option ℕ) → IfSome idle (λ ms. (1 ≤ ms) × (ms ≤ MAX_IDLE_MS)) → IsIdle idle
idle_of_time None is = tt
idle_of_time (Some ms) is = let low = is.0 in (omega arith, is.1)

pub rule_sound : (text : List ℕ) (entry : Entry) → rule_at text ≡ Some entry → SpellsRule text entry
unfolding rule_at
rule_sound text entry e =
    let word = bind_some (split_at_first space text) _ entry e in
    let name = bind_some (split_at_first space word.0.1) _ entry word.2 in
    let listen = bind_some (split_at_first space name.0.1) _ entry name.2 in
    let target = bind_some (split_at_first space listen.0.1) _ entry listen.2 in
    let on = bind_some (address_at listen.0.0) _ entry target.2 in
    let to = bind_some (address_at target.0.0) _ entry on.2 in
    let idle = bind_some (time_within 1 MAX_IDLE_MS target.0.1) _ entry to.2 in
    let whole =
    guard_some (bytes_eq word.0.0 (codes "relay") && is_name name.0.0)
    (record { name = name.0.0; listen = on.0; target = to.0; idle = idle.0 }) entry idle.2 in
    let tests = both (bytes_eq word.0.0 (codes "relay")) (is_name name.0.0) whole.0 in
    let text_word = (split_sound space text word.0 word.1).0 in
    let text_name = (split_sound space word.0.1 name.0 name.1).0 in
    let text_listen = (split_sound space name.0.1 listen.0 listen.1).0 in
    let text_target = (split_sound space listen.0.1 target.0 target.1).0 in
    let is_on = address_sound listen.0.0 on.0 on.1 in
    let is_to = address_sound target.0.0 to.0 to.1 in
    let is_idle = time_sound 1 MAX_IDLE_MS target.0.1 idle.0 idle.1 in
    joined text word.0.0 word.0.1 name.0.0 name.0.1 listen.0.0 listen.0.1 target.0.0 target.0.1 on.0 to.0 idle.0 entry
    whole.1
    (same_bytes word.0.0 (codes "relay") tests.0) text_word text_name text_listen text_target is_on.0 is_to.0 is_idle.0
    tests.1 is_on.1 is_to.1 (idle_of_time idle.0 is_idle.1)
  where
    joined : (text w wt n nt l lt t tl : List ℕ) (on to : Address) (idle : Option ℕ) (entry : Entry)
        → record { name = n; listen = on; target = to; idle = idle } ≡ entry
        → w ≡ codes "relay" → text ≡ w ++ space ∷ wt → wt ≡ n ++ space ∷ nt → nt ≡ l ++ space ∷ lt
        → lt ≡ t ++ space ∷ tl
        → l ≡ address_text on → t ≡ address_text to → tl ≡ time_text idle
        → is_name n ≡ true → IsAddress on → IsAddress to → IsIdle idle
        → SpellsRule text entry
    joined text w wt n nt l lt t tl on to idle entry is word e1 e2 e3 e4 f1 f2 f3 is_n is_on is_to is_idle =
        let spelled : text ≡ w ++ space ∷ (n ++ space
        ∷ (address_text on ++ space ∷ (address_text to ++ space ∷ time_text idle))) = cc in
        let all : text ≡ codes "relay" ++ space ∷
        (n ++ space ∷ (address_text on ++ space ∷ (address_text to ++ space ∷ time_text idle))) =
        spelled ∙ ap (λ w. w ++ space ∷ (n ++ space
        ∷ (address_text on ++ space ∷ (address_text to ++ space ∷ time_text idle)))) word in
        subst (SpellsRule text) is (record {
          fits =
              record { name = is_n; listen = is_on; target = is_to; idle = is_idle };
          text = all;
        })
