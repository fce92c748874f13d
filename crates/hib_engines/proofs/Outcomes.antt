-- From what a call's result ensures to what is wanted of it.
use Rattle.std.proofs.Common.{Result, Ok, Err, IfOk, OnOk, OnErr, Option, Some, None, IfSome}

pub map_ok : {T E : Type 0} (r : Result T E) (P Q : T → Type 0) → IfOk r P → ((t : T) → P t → Q t) → IfOk r Q
map_ok (Ok t) P Q p f = f t p
map_ok (Err e) P Q p f = tt

pub both_ok : {T E : Type 0} (r : Result T E) (P : T → Type 0) (R : Type 0) (Q : T → Type 0) → IfOk r P → OnOk r R → ((t : T) → P t → R → Q t) → IfOk r Q
both_ok (Ok t) P R Q p q f = f t p q
both_ok (Err e) P R Q p q f = tt

pub map_err : {T E : Type 0} (r : Result T E) (R Q : Type 0) → OnErr r R → (R → Q) → OnErr r Q
map_err (Ok t) R Q p f = tt
map_err (Err e) R Q p f = f p

pub map_on : {T E : Type 0} (r : Result T E) (R Q : Type 0) → OnOk r R → (R → Q) → OnOk r Q
map_on (Ok t) R Q p f = f p
map_on (Err e) R Q p f = tt

pub err_all : {T E : Type 0} (r : Result T E) (Q : Type 0) → Q → OnErr r Q
err_all (Ok t) Q q = tt
err_all (Err e) Q q = q

pub both_err : {T E : Type 0} (r : Result T E) (R S Q : Type 0) → OnErr r R → OnErr r S → (R → S → Q) → OnErr r Q
both_err (Ok t) R S Q p q f = tt
both_err (Err e) R S Q p q f = f p q

pub two_ok : {T E : Type 0} (r : Result T E) (P R Q : T → Type 0) → IfOk r P → IfOk r R → ((t : T) → P t → R t → Q t) → IfOk r Q
two_ok (Ok t) P R Q p q f = f t p q
two_ok (Err e) P R Q p q f = tt

pub three_ok : {T E : Type 0} (r : Result T E) (P R S Q : T → Type 0) → IfOk r P → IfOk r R → IfOk r S → ((t : T) → P t → R t → S t → Q t) → IfOk r Q
three_ok (Ok t) P R S Q p q s f = f t p q s
three_ok (Err e) P R S Q p q s f = tt

pub map_some : {A : Type 0} (o : Option A) (P Q : A → Type 0) → IfSome o P → ((a : A) → P a → Q a) → IfSome o Q
map_some (Some a) P Q p f = f a p
map_some None P Q p f = tt
