-- How runs of steps are joined.
use Rattle.lvm_disk.specs.Device.{Device}
use Rattle.lvm_disk.specs.Images.{LeavesNoMore}
use Rattle.lvm_disk.specs.Paths.{DeviceStep, Path, Here, Then}

pub first-path : {A : Type 0} {Next : A → A → Type 0} {P : A → Type 0} {a b : A} → Path Next P a b → P a
first-path (Here p) = p
first-path (Then path step p) = first-path path

pub last-path : {A : Type 0} {Next : A → A → Type 0} {P : A → Type 0} {a b : A} → Path Next P a b → P b
last-path (Here p) = p
last-path (Then path step p) = p

pub append-path : {A : Type 0} {Next : A → A → Type 0} {P : A → Type 0} {a b c : A} → Path Next P a b → Path Next P b c → Path Next P a c
append-path front (Here p) = front
append-path front (Then path step p) = Then (append-path front path) step p

-- the same run, of which something else holds
pub map-path : {A : Type 0} {Next : A → A → Type 0} {P : A → Type 0} (Q : A → Type 0) {a b : A} → ((x : A) → P x → Q x) → Path Next P a b → Path Next Q a b
map-path Q f (Here p) = Here (f _ p)
map-path Q f (Then path step p) = Then (map-path Q f path) step (f _ p)

-- the same steps, seen as those of something larger
pub lift-path :
    {A B : Type 0} {Next : A → A → Type 0} (Step : B → B → Type 0) {P : A → Type 0} (Q : B → Type 0) (into : A → B) {a b : A} → ((x y : A) → Next x y → Step (into x) (into y))
    → ((x : A) → P x → Q (into x)) → Path Next P a b → Path Step Q (into a) (into b)
lift-path Step Q into steps f (Here p) = Here (f _ p)
lift-path Step Q into steps f (Then path step p) = Then (lift-path Step Q into steps f path) (steps _ _ step) (f _ p)

-- crash images after one run and another are among those from before both
pub leaves_on : {a b c : Device} → Path DeviceStep (LeavesNoMore a) a b → Path DeviceStep (LeavesNoMore b) b c → Path DeviceStep (LeavesNoMore a) a c
leaves_on {a} {b} one two = append-path one (map-path (LeavesNoMore a) (λ d leaves image may. last-path one image (leaves image may)) two)
