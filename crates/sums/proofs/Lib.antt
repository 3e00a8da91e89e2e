pub mod SumSteps
