-- What may come, and what is certain to come, of iterators and of what is computed from them.

-- `may` holds for what may come, and `will` for what is certain to come
pub record Answers (X : Type 0) : Type 1 where
  pub may : X → Type 0
  pub will : X → Type 0

-- the pairs of what comes of two
abbrev pub both : {X Y : Type 0} → Answers X → Answers Y → Answers (X × Y)
both k l = record { may = λ x. k.may x.0 × l.may x.1; will = λ x. k.will x.0 × l.will x.1 }
