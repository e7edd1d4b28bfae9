mod Binding
mod DaySteps
mod Sums
mod Dependence
mod Worked
