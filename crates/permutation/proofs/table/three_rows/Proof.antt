-- `permutation::table::three_rows` meets its contract: each arm's places are computed, and there is an arm for each number below 240.
-- Assumes nothing.
use mathlib.Core.Path.{refl}
use native.Mathlib.Omega.{arith}
use Rattle.permutation.specs.Permutation.{rows}
use Rattle.permutation.proofs.Tests.{past}
use Rattle.permutation.proofs.table.three_rows.Statement.{statement}
use Rattle.permutation.proofs.table.three_rows.Tie as tie

pub three_rows_spec : {M : Type 1} → statement M
unfolding rows
three_rows_spec =
    tie.close
    (tie.spec
    (λ c. rw c.in-0.is refl) (λ c. rw c.in-1.is refl) (λ c. rw c.in-2.is refl) (λ c. rw c.in-3.is refl) (λ c. rw c.in-4.is refl) (λ c. rw c.in-5.is refl)
    (λ c. rw c.in-6.is refl) (λ c. rw c.in-7.is refl) (λ c. rw c.in-8.is refl) (λ c. rw c.in-9.is refl) (λ c. rw c.in-10.is refl) (λ c. rw c.in-11.is refl)
    (λ c. rw c.in-12.is refl) (λ c. rw c.in-13.is refl) (λ c. rw c.in-14.is refl) (λ c. rw c.in-15.is refl) (λ c. rw c.in-16.is refl) (λ c. rw c.in-17.is refl)
    (λ c. rw c.in-18.is refl) (λ c. rw c.in-19.is refl) (λ c. rw c.in-20.is refl) (λ c. rw c.in-21.is refl) (λ c. rw c.in-22.is refl) (λ c. rw c.in-23.is refl)
    (λ c. rw c.in-24.is refl) (λ c. rw c.in-25.is refl) (λ c. rw c.in-26.is refl) (λ c. rw c.in-27.is refl) (λ c. rw c.in-28.is refl) (λ c. rw c.in-29.is refl)
    (λ c. rw c.in-30.is refl) (λ c. rw c.in-31.is refl) (λ c. rw c.in-32.is refl) (λ c. rw c.in-33.is refl) (λ c. rw c.in-34.is refl) (λ c. rw c.in-35.is refl)
    (λ c. rw c.in-36.is refl) (λ c. rw c.in-37.is refl) (λ c. rw c.in-38.is refl) (λ c. rw c.in-39.is refl) (λ c. rw c.in-40.is refl) (λ c. rw c.in-41.is refl)
    (λ c. rw c.in-42.is refl) (λ c. rw c.in-43.is refl) (λ c. rw c.in-44.is refl) (λ c. rw c.in-45.is refl) (λ c. rw c.in-46.is refl) (λ c. rw c.in-47.is refl)
    (λ c. rw c.in-48.is refl) (λ c. rw c.in-49.is refl) (λ c. rw c.in-50.is refl) (λ c. rw c.in-51.is refl) (λ c. rw c.in-52.is refl) (λ c. rw c.in-53.is refl)
    (λ c. rw c.in-54.is refl) (λ c. rw c.in-55.is refl) (λ c. rw c.in-56.is refl) (λ c. rw c.in-57.is refl) (λ c. rw c.in-58.is refl) (λ c. rw c.in-59.is refl)
    (λ c. rw c.in-60.is refl) (λ c. rw c.in-61.is refl) (λ c. rw c.in-62.is refl) (λ c. rw c.in-63.is refl) (λ c. rw c.in-64.is refl) (λ c. rw c.in-65.is refl)
    (λ c. rw c.in-66.is refl) (λ c. rw c.in-67.is refl) (λ c. rw c.in-68.is refl) (λ c. rw c.in-69.is refl) (λ c. rw c.in-70.is refl) (λ c. rw c.in-71.is refl)
    (λ c. rw c.in-72.is refl) (λ c. rw c.in-73.is refl) (λ c. rw c.in-74.is refl) (λ c. rw c.in-75.is refl) (λ c. rw c.in-76.is refl) (λ c. rw c.in-77.is refl)
    (λ c. rw c.in-78.is refl) (λ c. rw c.in-79.is refl) (λ c. rw c.in-80.is refl) (λ c. rw c.in-81.is refl) (λ c. rw c.in-82.is refl) (λ c. rw c.in-83.is refl)
    (λ c. rw c.in-84.is refl) (λ c. rw c.in-85.is refl) (λ c. rw c.in-86.is refl) (λ c. rw c.in-87.is refl) (λ c. rw c.in-88.is refl) (λ c. rw c.in-89.is refl)
    (λ c. rw c.in-90.is refl) (λ c. rw c.in-91.is refl) (λ c. rw c.in-92.is refl) (λ c. rw c.in-93.is refl) (λ c. rw c.in-94.is refl) (λ c. rw c.in-95.is refl)
    (λ c. rw c.in-96.is refl) (λ c. rw c.in-97.is refl) (λ c. rw c.in-98.is refl) (λ c. rw c.in-99.is refl) (λ c. rw c.in-100.is refl) (λ c. rw c.in-101.is refl)
    (λ c. rw c.in-102.is refl) (λ c. rw c.in-103.is refl) (λ c. rw c.in-104.is refl) (λ c. rw c.in-105.is refl) (λ c. rw c.in-106.is refl) (λ c. rw c.in-107.is refl)
    (λ c. rw c.in-108.is refl) (λ c. rw c.in-109.is refl) (λ c. rw c.in-110.is refl) (λ c. rw c.in-111.is refl) (λ c. rw c.in-112.is refl) (λ c. rw c.in-113.is refl)
    (λ c. rw c.in-114.is refl) (λ c. rw c.in-115.is refl) (λ c. rw c.in-116.is refl) (λ c. rw c.in-117.is refl) (λ c. rw c.in-118.is refl) (λ c. rw c.in-119.is refl)
    (λ c. rw c.in-120.is refl) (λ c. rw c.in-121.is refl) (λ c. rw c.in-122.is refl) (λ c. rw c.in-123.is refl) (λ c. rw c.in-124.is refl) (λ c. rw c.in-125.is refl)
    (λ c. rw c.in-126.is refl) (λ c. rw c.in-127.is refl) (λ c. rw c.in-128.is refl) (λ c. rw c.in-129.is refl) (λ c. rw c.in-130.is refl) (λ c. rw c.in-131.is refl)
    (λ c. rw c.in-132.is refl) (λ c. rw c.in-133.is refl) (λ c. rw c.in-134.is refl) (λ c. rw c.in-135.is refl) (λ c. rw c.in-136.is refl) (λ c. rw c.in-137.is refl)
    (λ c. rw c.in-138.is refl) (λ c. rw c.in-139.is refl) (λ c. rw c.in-140.is refl) (λ c. rw c.in-141.is refl) (λ c. rw c.in-142.is refl) (λ c. rw c.in-143.is refl)
    (λ c. rw c.in-144.is refl) (λ c. rw c.in-145.is refl) (λ c. rw c.in-146.is refl) (λ c. rw c.in-147.is refl) (λ c. rw c.in-148.is refl) (λ c. rw c.in-149.is refl)
    (λ c. rw c.in-150.is refl) (λ c. rw c.in-151.is refl) (λ c. rw c.in-152.is refl) (λ c. rw c.in-153.is refl) (λ c. rw c.in-154.is refl) (λ c. rw c.in-155.is refl)
    (λ c. rw c.in-156.is refl) (λ c. rw c.in-157.is refl) (λ c. rw c.in-158.is refl) (λ c. rw c.in-159.is refl) (λ c. rw c.in-160.is refl) (λ c. rw c.in-161.is refl)
    (λ c. rw c.in-162.is refl) (λ c. rw c.in-163.is refl) (λ c. rw c.in-164.is refl) (λ c. rw c.in-165.is refl) (λ c. rw c.in-166.is refl) (λ c. rw c.in-167.is refl)
    (λ c. rw c.in-168.is refl) (λ c. rw c.in-169.is refl) (λ c. rw c.in-170.is refl) (λ c. rw c.in-171.is refl) (λ c. rw c.in-172.is refl) (λ c. rw c.in-173.is refl)
    (λ c. rw c.in-174.is refl) (λ c. rw c.in-175.is refl) (λ c. rw c.in-176.is refl) (λ c. rw c.in-177.is refl) (λ c. rw c.in-178.is refl) (λ c. rw c.in-179.is refl)
    (λ c. rw c.in-180.is refl) (λ c. rw c.in-181.is refl) (λ c. rw c.in-182.is refl) (λ c. rw c.in-183.is refl) (λ c. rw c.in-184.is refl) (λ c. rw c.in-185.is refl)
    (λ c. rw c.in-186.is refl) (λ c. rw c.in-187.is refl) (λ c. rw c.in-188.is refl) (λ c. rw c.in-189.is refl) (λ c. rw c.in-190.is refl) (λ c. rw c.in-191.is refl)
    (λ c. rw c.in-192.is refl) (λ c. rw c.in-193.is refl) (λ c. rw c.in-194.is refl) (λ c. rw c.in-195.is refl) (λ c. rw c.in-196.is refl) (λ c. rw c.in-197.is refl)
    (λ c. rw c.in-198.is refl) (λ c. rw c.in-199.is refl) (λ c. rw c.in-200.is refl) (λ c. rw c.in-201.is refl) (λ c. rw c.in-202.is refl) (λ c. rw c.in-203.is refl)
    (λ c. rw c.in-204.is refl) (λ c. rw c.in-205.is refl) (λ c. rw c.in-206.is refl) (λ c. rw c.in-207.is refl) (λ c. rw c.in-208.is refl) (λ c. rw c.in-209.is refl)
    (λ c. rw c.in-210.is refl) (λ c. rw c.in-211.is refl) (λ c. rw c.in-212.is refl) (λ c. rw c.in-213.is refl) (λ c. rw c.in-214.is refl) (λ c. rw c.in-215.is refl)
    (λ c. rw c.in-216.is refl) (λ c. rw c.in-217.is refl) (λ c. rw c.in-218.is refl) (λ c. rw c.in-219.is refl) (λ c. rw c.in-220.is refl) (λ c. rw c.in-221.is refl)
    (λ c. rw c.in-222.is refl) (λ c. rw c.in-223.is refl) (λ c. rw c.in-224.is refl) (λ c. rw c.in-225.is refl) (λ c. rw c.in-226.is refl) (λ c. rw c.in-227.is refl)
    (λ c. rw c.in-228.is refl) (λ c. rw c.in-229.is refl) (λ c. rw c.in-230.is refl) (λ c. rw c.in-231.is refl) (λ c. rw c.in-232.is refl) (λ c. rw c.in-233.is refl)
    (λ c. rw c.in-234.is refl) (λ c. rw c.in-235.is refl) (λ c. rw c.in-236.is refl) (λ c. rw c.in-237.is refl) (λ c. rw c.in-238.is refl) (λ c. rw c.in-239.is refl)
    (λ c. absurd (omega (arith, past c.before.args.k 240 c.in_default.in_default-own.rest))))
