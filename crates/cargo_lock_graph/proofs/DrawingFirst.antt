-- What occurs has one first entry.
use Rattle.std.proofs.Common.{◌≡◌, ℕ, false, eqb, List, [], ◌∷◌, ◌++◌, refl, sym, ap, ◌∙◌, inl, inr}
use Rattle.std.proofs.lemmas.Bool.{cases_eq, or_cases, or_from, or_parts, eq-eqb, ne_eqb, eqb-true, false≢true}
use Rattle.cargo_lock_graph.specs.declared.drawing.entry.Entry.{Entry}
use Rattle.cargo_lock_graph.specs.Drawing.{is_one_of, nodes_of, Occurs, IsFirst}

pub first_of : (n : ℕ) (es : List Entry) → Occurs n es → (front : List Entry) × (e : Entry) × (later : List Entry) × IsFirst n es front e later
first_of n [] h = absurd cc
first_of n (e ∷ es) h =
    elim (cases_eq n e.node) [
      | inl same ↦ ([], e, es, record { stands = refl; node = sym same; new = refl })
      | inr other ↦ (let later : Occurs n es = elim (or_cases (eqb n e.node) (is_one_of n (nodes_of es)) h) [ inl same ↦ absurd (other (eqb-true n e.node same)) | inr later ↦ later ] in
          let r = first_of n es later in
          (e ∷ r.0, r.1, r.2, record { stands = ap (λ (l : List Entry). e ∷ l) r.3.stands; node = r.3.node; new = or_from (eqb n e.node) (is_one_of n (nodes_of r.0)) (ne_eqb n e.node other) r.3.new }))
    ]

clash : (n : ℕ) (e y : Entry) (front : List Entry) → e.node ≡ n → e ≡ y → is_one_of n (nodes_of (y ∷ front)) ≡ false → ⊥
clash n e y front node same new =
    let at : n ≡ y.node = sym node ∙ ap (λ (z : Entry). z.node) same in
    false≢true (sym (or_parts (eqb n y.node) (is_one_of n (nodes_of front)) new).0 ∙ eq-eqb n y.node at)

pub one_first : (n : ℕ) (es f g : List Entry) (a b : Entry) (k l : List Entry) → IsFirst n es f a k → IsFirst n es g b l → f ≡ g
one_first n [] [] g a b k l p q = let e = p.stands in absurd cc
one_first n [] (x ∷ f) g a b k l p q = let e = p.stands in absurd cc
one_first n (e ∷ es) [] [] a b k l p q = refl
one_first n (e ∷ es) [] (y ∷ g) a b k l p q =
    let one : e ≡ a = cc (p.stands) in let two : e ≡ y = cc (q.stands) in
    absurd (clash n a y g p.node (sym one ∙ two) q.new)
one_first n (e ∷ es) (x ∷ f) [] a b k l p q =
    let one : e ≡ x = cc (p.stands) in let two : e ≡ b = cc (q.stands) in
    absurd (clash n b x f q.node (sym two ∙ one) p.new)
one_first n (e ∷ es) (x ∷ f) (y ∷ g) a b k l p q =
    let one : e ≡ x = cc (p.stands) in let two : e ≡ y = cc (q.stands) in
    let rest1 : es ≡ f ++ a ∷ k = cc (p.stands) in let rest2 : es ≡ g ++ b ∷ l = cc (q.stands) in
    let same = one_first n es f g a b k l (record { stands = rest1; node = p.node; new = (or_parts (eqb n x.node) (is_one_of n (nodes_of f)) p.new).1 }) (record { stands = rest2; node = q.node; new = (or_parts (eqb n y.node) (is_one_of n (nodes_of g)) q.new).1 }) in
    ap (λ (z : Entry). z ∷ f) (sym one ∙ two) ∙ ap (λ (h : List Entry). y ∷ h) same
