-- What reads and writes do one after the other to the bytes that are left and held, where those are known.
use Rattle.std.proofs.Common.{◌∙◌, sym, ap, refl, subst, ℕ, List, [], ◌++◌, Option, None, Some, append_assoc}
use Rattle.std.specs.Prelude.{IfSome}
use Rattle.std.specs.Io.KnownBytes.{Appends, Consumes, IsAtEnd, Keeps}
use Rattle.std.proofs.lemmas.List.{append-nil}

-- ---- Staying the same

pub keeps_itself : (a : Option (List ℕ)) → Keeps a a
keeps_itself None = tt
keeps_itself (Some xs) = refl

pub keeps_then_keeps : (a b c : Option (List ℕ)) → Keeps a b → Keeps b c → Keeps a c
keeps_then_keeps None b c k h = tt
keeps_then_keeps (Some x) None c k h = absurd k
keeps_then_keeps (Some x) (Some y) None k h = h
keeps_then_keeps (Some x) (Some y) (Some z) k h = h ∙ k

-- ---- Bytes held

pub appends_nothing : (a : Option (List ℕ)) → Appends a a []
appends_nothing None = tt
appends_nothing (Some xs) = sym (append-nil xs)

pub appends_then_appends : (a b c : Option (List ℕ)) (xs ys : List ℕ) → Appends a b xs → Appends b c ys
    → Appends a c (xs ++ ys)
appends_then_appends None b c xs ys h k = tt
appends_then_appends (Some x) None c xs ys h k = absurd h
appends_then_appends (Some x) (Some y) None xs ys h k = absurd k
appends_then_appends (Some x) (Some y) (Some z) xs ys h k = k ∙ ap (λ (l : List ℕ). l ++ ys) h ∙ append_assoc x xs ys

pub appends_then_keeps : (a b c : Option (List ℕ)) (xs : List ℕ) → Appends a b xs → Keeps b c → Appends a c xs
appends_then_keeps None b c xs h k = tt
appends_then_keeps (Some x) None c xs h k = absurd h
appends_then_keeps (Some x) (Some y) None xs h k = absurd k
appends_then_keeps (Some x) (Some y) (Some z) xs h k = k ∙ h

pub keeps_then_appends : (a b c : Option (List ℕ)) (xs : List ℕ) → Keeps a b → Appends b c xs → Appends a c xs
keeps_then_appends None b c xs k h = tt
keeps_then_appends (Some x) None c xs k h = absurd k
keeps_then_appends (Some x) (Some y) None xs k h = absurd h
keeps_then_appends (Some x) (Some y) (Some z) xs k h = h ∙ ap (λ (l : List ℕ). l ++ xs) k

-- ---- Bytes left

pub consumes_nothing : (a : Option (List ℕ)) → Consumes a a []
consumes_nothing None = tt
consumes_nothing (Some xs) = refl

pub consumes_then_consumes : (a b c : Option (List ℕ)) (xs ys : List ℕ) → Consumes a b xs → Consumes b c ys
    → Consumes a c (xs ++ ys)
consumes_then_consumes None b c xs ys h k = tt
consumes_then_consumes (Some x) None c xs ys h k = absurd h
consumes_then_consumes (Some x) (Some y) None xs ys h k = absurd k
consumes_then_consumes (Some x) (Some y) (Some z) xs ys h k = h ∙ ap (λ (l : List ℕ). xs ++ l) k
    ∙ sym (append_assoc xs ys z)

pub consumes_then_keeps : (a b c : Option (List ℕ)) (xs : List ℕ) → Consumes a b xs → Keeps b c → Consumes a c xs
consumes_then_keeps None b c xs h k = tt
consumes_then_keeps (Some x) None c xs h k = absurd h
consumes_then_keeps (Some x) (Some y) None xs h k = absurd k
consumes_then_keeps (Some x) (Some y) (Some z) xs h k = h ∙ ap (λ (l : List ℕ). xs ++ l) (sym k)

pub keeps_then_consumes : (a b c : Option (List ℕ)) (xs : List ℕ) → Keeps a b → Consumes b c xs → Consumes a c xs
keeps_then_consumes None b c xs k h = tt
keeps_then_consumes (Some x) None c xs k h = absurd k
keeps_then_consumes (Some x) (Some y) None xs k h = absurd h
keeps_then_consumes (Some x) (Some y) (Some z) xs k h = sym k ∙ h

-- ---- The whole text is what was consumed and what is left

-- what holds of the bytes consumed with whatever follows them holds of the whole text
pub of_whole_text : (P : List ℕ → Type 0) (a b : Option (List ℕ)) (xs : List ℕ) → Consumes a b xs
    → ((rest : List ℕ) → P (xs ++ rest)) → IfSome a P
of_whole_text P None b xs h f = tt
of_whole_text P (Some x) None xs h f = absurd h
of_whole_text P (Some x) (Some y) xs h f = subst P (sym h) (f y)

-- at the end the bytes consumed are the whole text
pub of_ended_text : (P : List ℕ → Type 0) (a b : Option (List ℕ)) (xs : List ℕ) → Consumes a b xs → IsAtEnd b → P xs
    → IfSome a P
of_ended_text P None b xs h e p = tt
of_ended_text P (Some x) None xs h e p = absurd h
of_ended_text P (Some x) (Some y) xs h e p = subst P (sym (h ∙ ap (λ (l : List ℕ). xs ++ l) e ∙ append-nil xs)) p
