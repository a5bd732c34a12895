-- One thing holds exactly when another does. It states no rule of the paper.
pub record ExactlyWhen (P Q : Type 0) : Type 0 where
  pub only : P → Q
  pub if : Q → P
