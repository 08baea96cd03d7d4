-- What holds of a result, by what is known of it.
use Rattle.std.proofs.Common.{Result, Ok, Err}
use Rattle.std.specs.Prelude.{IfOk, OnOk, OnErr, IfErr}

pub on-ok : {R F : Type 0} {P Q : Type 0} (r : Result R F) → (P → Q) → OnOk r P → OnOk r Q
on-ok (Ok x) f p = f p
on-ok (Err x) f p = tt

pub on-err : {R F : Type 0} {P Q : Type 0} (r : Result R F) → (P → Q) → OnErr r P → OnErr r Q
on-err (Ok x) f p = tt
on-err (Err x) f p = f p

pub if-err : {R F : Type 0} {P Q : F → Type 0} (r : Result R F) → ((x : F) → P x → Q x) → IfErr r P → IfErr r Q
if-err (Ok x) f p = tt
if-err (Err x) f p = f x p

pub if-ok : {R F : Type 0} {P Q : R → Type 0} (r : Result R F) → ((x : R) → P x → Q x) → IfOk r P → IfOk r Q
if-ok (Ok x) f p = f x p
if-ok (Err x) f p = tt
