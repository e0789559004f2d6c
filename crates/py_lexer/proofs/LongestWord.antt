-- What is read of a word is the longest front that is one.
use Rattle.std.proofs.Common.{ℕ, suc, ◌≡◌, ◌+◌, ◌&&◌, Bool, true, false, cond, arith, refl, sym, ap, ◌∙◌, subst, List, [], ◌∷◌, ◌++◌, take, drop}
use Rattle.std.specs.List.{list_all, prefix_len}
use Rattle.unicode_ident.specs.Ident.{is_xid_continue}
use Rattle.py_tokens.specs.TextPieces.{Longest, IsWord}
use Rattle.py_tokens.specs.WordForms.{begins_word, word_len}

pub both : (a b : Bool) → (a && b) ≡ true → (a ≡ true) × (b ≡ true)
both true b h = (refl, h)
both false b h = cc

passes_by : (b : Bool) (p : ℕ → Bool) (x : ℕ) (xs : List ℕ) → p x ≡ b → list_all p (take (prefix_len p xs) xs) ≡ true → list_all p (take (cond b (1 + prefix_len p xs) 0) (x ∷ xs)) ≡ true
passes_by true p x xs h i = let e : 1 + prefix_len p xs ≡ suc (prefix_len p xs) = omega arith in subst (λ (k : ℕ). list_all p (take k (x ∷ xs)) ≡ true) (sym e) (ap (λ b. b && list_all p (take (prefix_len p xs) xs)) h ∙ i)
passes_by false p x xs h i = refl

pub passes : (p : ℕ → Bool) (xs : List ℕ) → list_all p (take (prefix_len p xs) xs) ≡ true
passes p [] = refl
passes p (x ∷ xs) = passes_by (p x) p x xs refl (passes p xs)

pub none_more : (more behind : List ℕ) → [] ≡ more ++ behind → more ≡ []
none_more [] behind e = refl
none_more (m ∷ more) behind e = cc

not_first : (p : ℕ → Bool) (x : ℕ) (xs more behind : List ℕ) → p x ≡ false → x ∷ xs ≡ more ++ behind → list_all p more ≡ true → more ≡ []
not_first p x xs [] behind h e t = refl
not_first p x xs (m ∷ more) behind h e t =
    let q : p m ≡ true = (both (p m) (list_all p more) t).0 in
    let k : x ≡ m = cc in
    let r : p m ≡ false = subst (λ (c : ℕ). p c ≡ false) k h in cc

stops_by : (b : Bool) (p : ℕ → Bool) (x : ℕ) (xs : List ℕ) → p x ≡ b → ((more behind : List ℕ) → drop (prefix_len p xs) xs ≡ more ++ behind → list_all p more ≡ true → more ≡ []) → (more behind : List ℕ) → drop (cond b (1 + prefix_len p xs) 0) (x ∷ xs) ≡ more ++ behind → list_all p more ≡ true → more ≡ []
stops_by true p x xs h i more behind e t =
    let k : 1 + prefix_len p xs ≡ suc (prefix_len p xs) = omega arith in
    i more behind (subst (λ (n : ℕ). drop n (x ∷ xs) ≡ more ++ behind) k e) t
stops_by false p x xs h i more behind e t = not_first p x xs more behind h e t

pub stops : (p : ℕ → Bool) (xs more behind : List ℕ) → drop (prefix_len p xs) xs ≡ more ++ behind → list_all p more ≡ true → more ≡ []
stops p [] more behind e t = none_more more behind e
stops p (x ∷ xs) more behind e t = stops_by (p x) p x xs refl (stops p xs) more behind e t

pub second_passes : (p : ℕ → Bool) (front more : List ℕ) → list_all p (front ++ more) ≡ true → list_all p more ≡ true
second_passes p [] more t = t
second_passes p (x ∷ front) more t = second_passes p front more (both (p x) (list_all p (front ++ more)) t).1

-- the characters that go on are the longest word behind its first character
pub word_longest : (c : ℕ) (cs front rest : List ℕ) → begins_word c ≡ true → front ≡ take (prefix_len is_xid_continue cs) cs → rest ≡ drop (prefix_len is_xid_continue cs) cs → Longest IsWord (c ∷ front) rest
word_longest c cs front rest h f r = (
  ap (λ b. b && list_all is_xid_continue front) h ∙ ap (list_all is_xid_continue) f ∙ passes is_xid_continue cs,
  λ more behind e t. stops is_xid_continue cs more behind (sym r ∙ e) (second_passes is_xid_continue front more (both (begins_word c) (list_all is_xid_continue (front ++ more)) t).1),
)

pub word_begins : (c : ℕ) (cs front rest : List ℕ) → begins_word c ≡ false → c ∷ cs ≡ front ++ rest → IsWord front → ⊥
word_begins c cs [] rest h e t = cc
word_begins c cs (x ∷ front) rest h e t =
    let q : begins_word x ≡ true = (both (begins_word x) (list_all is_xid_continue front) t).0 in
    let k : c ≡ x = cc in
    let r : begins_word x ≡ false = subst (λ (d : ℕ). begins_word d ≡ false) k h in cc

front_by : (b : Bool) (c : ℕ) (cs : List ℕ) → begins_word c ≡ b → (cond b (1 + prefix_len is_xid_continue cs) 0 ≡ 0 → ⊥) → Longest IsWord (take (cond b (1 + prefix_len is_xid_continue cs) 0) (c ∷ cs)) (drop (cond b (1 + prefix_len is_xid_continue cs) 0) (c ∷ cs))
front_by true c cs h k =
    let e : 1 + prefix_len is_xid_continue cs ≡ suc (prefix_len is_xid_continue cs) = omega arith in
    subst (λ (n : ℕ). Longest IsWord (take n (c ∷ cs)) (drop n (c ∷ cs))) (sym e) (word_longest c cs (take (prefix_len is_xid_continue cs) cs) (drop (prefix_len is_xid_continue cs) cs) h refl refl)
front_by false c cs h k = absurd (k refl)

pub longest_word : (cs : List ℕ) → (word_len cs ≡ 0 → ⊥) → Longest IsWord (take (word_len cs) cs) (drop (word_len cs) cs)
longest_word [] k = absurd (k refl)
longest_word (c ∷ cs) k = front_by (begins_word c) c cs refl k

none_by : (b : Bool) (c : ℕ) (cs : List ℕ) → begins_word c ≡ b → cond b (1 + prefix_len is_xid_continue cs) 0 ≡ 0 → (front rest : List ℕ) → c ∷ cs ≡ front ++ rest → IsWord front → ⊥
none_by true c cs h k front rest e t = omega arith
none_by false c cs h k front rest e t = word_begins c cs front rest h e t

none_in_nothing : (front rest : List ℕ) → [] ≡ front ++ rest → IsWord front → ⊥
none_in_nothing [] rest e t = cc
none_in_nothing (x ∷ front) rest e t = cc

pub no_word : (cs : List ℕ) → word_len cs ≡ 0 → (front rest : List ℕ) → cs ≡ front ++ rest → IsWord front → ⊥
no_word [] k front rest e t = none_in_nothing front rest e t
no_word (c ∷ cs) k front rest e t = none_by (begins_word c) c cs refl k front rest e t
